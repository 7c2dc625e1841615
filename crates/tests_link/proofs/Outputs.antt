-- The outputs of a link map, as code has them.
use Rattle.std.proofs.Common.{◌≡◌, ℕ, ◌<◌, List, get_or, length, map, sym, ◌∙◌, ap}
use Rattle.std.proofs.lemmas.List.{get_or-map, length-map}
use Rattle.elf_link_map.specs.LinkMap.{LinkMapValue}
use Rattle.elf_link_map.specs.Standing.{output_at}
use Rattle.elf_link_outputs.specs.declared.placing.Output.{Output}
use Rattle.elf_link_outputs.specs.Placed.{OutputValue, no_output, output_value}

pub many_outputs : (m : LinkMapValue) (os : List Output) → map output_value os ≡ m.outputs → length os ≡ length m.outputs
many_outputs m os same = sym (length-map os output_value) ∙ ap (λ (vs : List OutputValue). length vs) same

output_is : (m : LinkMapValue) (os : List Output) (k : ℕ) (d : Output) → map output_value os ≡ m.outputs → k < length os →
    output_value (get_or os k d) ≡ output_at m k
output_is m os k d same lt = sym (get_or-map output_value os k d no_output lt) ∙ ap (λ (vs : List OutputValue). get_or vs k no_output) same

pub address_is : (m : LinkMapValue) (os : List Output) (k : ℕ) (d : Output) → map output_value os ≡ m.outputs → k < length os →
    (get_or os k d).address ≡ (output_at m k).address
address_is m os k d same lt = ap (λ (v : OutputValue). v.address) (output_is m os k d same lt)

pub length_is : (m : LinkMapValue) (os : List Output) (k : ℕ) (d : Output) → map output_value os ≡ m.outputs → k < length os →
    (get_or os k d).length ≡ (output_at m k).length
length_is m os k d same lt = ap (λ (v : OutputValue). v.length) (output_is m os k d same lt)
