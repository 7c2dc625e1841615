-- The longest file.
use Rattle.std.specs.Prelude.{ℕ, ◌^◌}

-- the length of the longest file in bytes (a limit of elfmap, not of the gABI)
abbrev pub MAX_LEN : ℕ
MAX_LEN = 2 ^ 30
