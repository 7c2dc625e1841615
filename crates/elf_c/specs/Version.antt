-- The version of the library.
use Rattle.std.specs.Prelude.{ℕ, ◌+◌, ◌*◌}

-- of three numbers, each below a thousand but the first: versions are in the order of these numbers
abbrev pub version_number : ℕ → ℕ → ℕ → ℕ
version_number major minor patch = 1000000 * major + 1000 * minor + patch

-- as the file VERSION has it: 0.1.0
abbrev pub VERSION : ℕ
VERSION = version_number 0 1 0
