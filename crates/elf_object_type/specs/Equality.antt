-- Whether two objects are the same: whether each of their parts is. That it is their equality the law `same_object` says.
use Rattle.std.specs.Prelude.{ℕ, Bool, true, false, ◌&&◌, nat_eq, List, Option, None, Some}
use Rattle.std.specs.Bool.{beq}
use Rattle.std.specs.Cmp.Lexicographic.{pointwise}
use Rattle.std.specs.Ordering.{int_eq}
use Rattle.elf_field.specs.declared.number.Order.TheVariants.{Little, Big}
use Rattle.elf_field.specs.declared.number.Order.{Order}
use Rattle.elf_object_type.specs.Object.{BodyValue, bits, no_bits, relocs, group, ObjectValue, SectionValue, SymbolValue}
use Rattle.elf_object_type.specs.declared.parts.Info.TheVariants.{Number, Section}
use Rattle.elf_object_type.specs.declared.parts.Info.{Info}
use Rattle.elf_object_type.specs.declared.parts.Place.TheVariants.{Undef, Abs, Common, In}
use Rattle.elf_object_type.specs.declared.parts.Place.{Place}
use Rattle.elf_object_type.specs.declared.relocations.Relocation.{Relocation}

abbrev pub is_same_order : Order → Order → Bool
is_same_order Little Little = true
is_same_order Little Big = false
is_same_order Big Little = false
is_same_order Big Big = true

abbrev pub is_same_position : Option ℕ → Option ℕ → Bool
is_same_position None None = true
is_same_position None (Some j) = false
is_same_position (Some i) None = false
is_same_position (Some i) (Some j) = nat_eq i j

abbrev pub is_same_info : Info → Info → Bool
is_same_info (Number n) (Number m) = nat_eq n m
is_same_info (Number n) (Section j) = false
is_same_info (Section i) (Number m) = false
is_same_info (Section i) (Section j) = nat_eq i j

abbrev pub is_same_relocation : Relocation → Relocation → Bool
is_same_relocation r s = nat_eq r.offset s.offset && (is_same_position r.symbol s.symbol && (nat_eq r.kind s.kind
    && int_eq r.addend s.addend))

abbrev pub are_same_relocations : List Relocation → List Relocation → Bool
are_same_relocations rs ss = pointwise is_same_relocation rs ss

abbrev pub is_same_body : BodyValue → BodyValue → Bool
is_same_body (bits t b) (bits u c) = nat_eq t u && pointwise nat_eq b c
is_same_body (bits t b) (no_bits m) = false
is_same_body (bits t b) (relocs r j es) = false
is_same_body (bits t b) (group d j ns) = false
is_same_body (no_bits n) (bits u c) = false
is_same_body (no_bits n) (no_bits m) = nat_eq n m
is_same_body (no_bits n) (relocs r j es) = false
is_same_body (no_bits n) (group d j ns) = false
is_same_body (relocs q i ds) (bits u c) = false
is_same_body (relocs q i ds) (no_bits m) = false
is_same_body (relocs q i ds) (relocs r j es) = beq q r && (nat_eq i j && are_same_relocations ds es)
is_same_body (relocs q i ds) (group d j ns) = false
is_same_body (group c i ms) (bits u b) = false
is_same_body (group c i ms) (no_bits m) = false
is_same_body (group c i ms) (relocs r j es) = false
is_same_body (group c i ms) (group d j ns) = beq c d && (nat_eq i j && pointwise nat_eq ms ns)

abbrev pub is_same_section : SectionValue → SectionValue → Bool
is_same_section s t = pointwise nat_eq s.name t.name && (nat_eq s.flags t.flags && (nat_eq s.addr t.addr && (nat_eq s.align t.align
    && (nat_eq s.entsize t.entsize && (is_same_position s.link t.link && (is_same_info s.info t.info && is_same_body s.body t.body))))))

abbrev pub is_same_place : Place → Place → Bool
is_same_place Undef Undef = true
is_same_place Undef Abs = false
is_same_place Undef Common = false
is_same_place Undef (In j) = false
is_same_place Abs Undef = false
is_same_place Abs Abs = true
is_same_place Abs Common = false
is_same_place Abs (In j) = false
is_same_place Common Undef = false
is_same_place Common Abs = false
is_same_place Common Common = true
is_same_place Common (In j) = false
is_same_place (In i) Undef = false
is_same_place (In i) Abs = false
is_same_place (In i) Common = false
is_same_place (In i) (In j) = nat_eq i j

abbrev pub is_same_symbol : SymbolValue → SymbolValue → Bool
is_same_symbol s t = pointwise nat_eq s.name t.name && (nat_eq s.info t.info && (nat_eq s.other t.other && (is_same_place s.place t.place
    && (nat_eq s.value t.value && nat_eq s.size t.size))))

abbrev pub is_same_object : ObjectValue → ObjectValue → Bool
is_same_object a b = is_same_order a.order b.order && (nat_eq a.osabi b.osabi && (nat_eq a.abi b.abi && (nat_eq a.machine b.machine
    && (nat_eq a.flags b.flags && (pointwise is_same_section a.sections b.sections && pointwise is_same_symbol a.symbols b.symbols)))))
