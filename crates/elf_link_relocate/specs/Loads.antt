-- The stretches of memory that a link has, each of which is a segment of type PT_LOAD of its executable: one for each output section that
-- takes memory, and one for the commons if they do, in order of address.
-- (gABI chapter 5, Program Header: Segment Types, Segment Permissions; which there are is this project's profile.)
use Rattle.std.specs.Prelude.{ℕ, ◌+◌, ◌-◌, ◌^◌, ◌<◌, ◌==◌, nat_lt, if◌then◌else◌, Bool, true, List, bit_and, get_or, length, map}
use Rattle.std.specs.List.{filter, range_with_len}
use Rattle.elf_field.specs.Abi.{PF_R, PF_W, PF_X, SHF_EXECINSTR, SHF_WRITE}
use Rattle.elf_link_map.specs.LinkMap.{LinkMapValue}
use Rattle.elf_link_map.specs.Standing.{output_at}
use Rattle.elf_link_outputs.specs.Placed.{CommonValue, OutputValue, common_at}
use Rattle.elf_link_relocate.specs.declared.load.Load.{Load}

-- the permissions of a segment of sections with these flags: it is readable; writable and executable where they are
abbrev pub segment_flags : ℕ → ℕ
segment_flags flags =
    PF_R + (if bit_and flags SHF_WRITE == 0 then 0 else PF_W) + (if bit_and flags SHF_EXECINSTR == 0 then 0 else PF_X)

-- the output at position k: all of it
abbrev pub output_load : ℕ → OutputValue → Load
output_load k o = record { position = k; address = o.address; size = o.length; flags = segment_flags o.flags; no_bits = o.no_bits }

-- so many zeros at an address, which is writable
abbrev pub zeros_load : ℕ → ℕ → ℕ → Load
zeros_load k address size = record { position = k; address = address; size = size; flags = PF_R + PF_W; no_bits = true }

-- the commons, after so many outputs: from where the first one begins to where the last one ends; without commons nothing
abbrev pub commons_load : ℕ → List CommonValue → Load
commons_load k cs =
    let first = common_at cs 0 in
    let last = common_at cs (length cs - 1) in
    zeros_load k first.address (last.address + last.size - first.address)

abbrev pub load_at : LinkMapValue → ℕ → Load
load_at m k = if nat_lt k (length m.outputs) then output_load k (output_at m k) else commons_load k m.commons

abbrev pub has_memory : Load → Bool
has_memory load = nat_lt 0 load.size

-- all that take memory
unfoldable pub loads : LinkMapValue → List Load
loads m = filter has_memory (map (load_at m) (range_with_len 0 (length m.outputs + 1)))

-- the one used for one that isn't there
abbrev pub no_load : Load
no_load = record { position = 0; address = 0; size = 0; flags = 0; no_bits = true }

abbrev pub load_in : LinkMapValue → ℕ → Load
load_in m j = get_or (loads m) j no_load

-- each common ends below 2^64
abbrev pub EndInTime : List CommonValue → Type 0
EndInTime cs = (k : ℕ) → k < length cs → (common_at cs k).address + (common_at cs k).size < 2 ^ 64

-- p_filesz: a segment without bits has none in the file
abbrev pub file_size : Load → ℕ
file_size load = if load.no_bits then 0 else load.size
