-- Many entries in a buffer of the caller.
use Rattle.std.specs.Prelude.{◌≡◌, ◌<◌, ◌≤◌, ◌+◌, ◌^◌, ℕ, List, Option, None, Some, get_or, length}

-- a buffer that held `old` holds `new`: its first `count` slots have the entries from `first` on, as many as are there and fit; `Is j r`
-- says that r is entry j, or None if it is not there
pub record IsFilled {T : Type 0} (Is : ℕ → Option T → Type 0) (first : ℕ) (old new : List T) (count : ℕ) : Type 0 where
  pub long : length new ≡ length old
  pub fits : count ≤ length old
  pub right : (k : ℕ) (d : T) → k < count → Is (first + k) (Some (get_or new k d))
  pub others : (k : ℕ) (d : T) → count ≤ k → get_or new k d ≡ get_or old k d
  -- an index is less than 2^64
  pub all : count < length old → first + count < 2 ^ 64 → Is (first + count) None
