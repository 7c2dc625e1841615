-- Objects are found to be the same exactly where they are equal: so is each of their parts. These are the laws of `==`, and contracts
-- name them.
use Rattle.std.specs.Prelude.{ℕ, Bool, true, false, ◌&&◌, nat_eq, List, Option, None, Some}
use Rattle.std.specs.Bool.{Decides}
use Rattle.std.specs.Cmp.Lexicographic.{pointwise, pointwise_decides}
use Rattle.std.proofs.Common.{◌≡◌, refl, ap}
use Rattle.std.specs.Cmp.{IsEquivalence, IsPartialEquivalence, booleans_Decides, decided, partial_equiv_from_equiv, signed_Decides}
use Rattle.std.specs.Cmp.{unsigned_Decides}
use Rattle.elf_field.specs.declared.number.Order.TheVariants.{Little, Big}
use Rattle.elf_field.specs.declared.number.Order.{Order}
use Rattle.elf_object_type.specs.Object.{BodyValue, bits, no_bits, relocs, group, ObjectValue, SectionValue, SymbolValue}
use Rattle.elf_object_type.specs.declared.parts.Info.TheVariants.{Number, Section}
use Rattle.elf_object_type.specs.declared.parts.Info.{Info}
use Rattle.elf_object_type.specs.declared.parts.Place.TheVariants.{Undef, Abs, Common, In}
use Rattle.elf_object_type.specs.declared.parts.Place.{Place}
use Rattle.elf_object_type.specs.declared.relocations.Relocation.{Relocation}
use Rattle.elf_object_type.specs.Equality.{is_same_order, is_same_position, is_same_info, is_same_relocation, are_same_relocations}
use Rattle.elf_object_type.specs.Equality.{is_same_body, is_same_section, is_same_place, is_same_symbol, is_same_object}

-- two tests together
both : {P Q : Type 0} (s t : Bool) → Decides s P → Decides t Q → Decides (s && t) (P × Q)
both true t p q = (λ e. (p.0 refl, q.0 e), λ h. q.1 h.1)
both false t p q = (λ e. cc, λ h. p.1 h.0)

-- a test of another fact that holds exactly then
instead : {P Q : Type 0} (t : Bool) → Decides t P → (P → Q) → (Q → P) → Decides t Q
instead t p to back = (λ e. to (p.0 e), λ q. p.1 (back q))

-- no test is needed where two are never equal
never : {P : Type 0} → (P → ⊥) → Decides false P
never apart = (λ e. cc, λ p. absurd (apart p))

text_decides : (b c : List ℕ) → Decides (pointwise nat_eq b c) (b ≡ c)
text_decides = pointwise_decides unsigned_Decides

pub order_decides : (a b : Order) → Decides (is_same_order a b) (a ≡ b)
order_decides Little Little = (λ e. refl, λ e. refl)
order_decides Little Big = never (λ e. cc)
order_decides Big Little = never (λ e. cc)
order_decides Big Big = (λ e. refl, λ e. refl)

position_decides : (a b : Option ℕ) → Decides (is_same_position a b) (a ≡ b)
position_decides None None = (λ e. refl, λ e. refl)
position_decides None (Some j) = never (λ e. cc)
position_decides (Some i) None = never (λ e. cc)
position_decides (Some i) (Some j) = instead (nat_eq i j) (unsigned_Decides i j) (λ e. ap Some e) (λ e. cc)

info_decides : (a b : Info) → Decides (is_same_info a b) (a ≡ b)
info_decides (Number n) (Number m) = instead (nat_eq n m) (unsigned_Decides n m) (λ e. ap Number e) (λ e. cc)
info_decides (Number n) (Section j) = never (λ e. cc)
info_decides (Section i) (Number m) = never (λ e. cc)
info_decides (Section i) (Section j) = instead (nat_eq i j) (unsigned_Decides i j) (λ e. ap Section e) (λ e. cc)

pub relocation_decides : (a b : Relocation) → Decides (is_same_relocation a b) (a ≡ b)
relocation_decides a b =
    instead (is_same_relocation a b)
    (both _ _ (unsigned_Decides a.offset b.offset)
    (both _ _ (position_decides a.symbol b.symbol)
    (both _ _ (unsigned_Decides a.kind b.kind)
    (signed_Decides a.addend b.addend))))
    (λ h i. record { offset = h.0 i; symbol = h.1.0 i; kind = h.1.1.0 i; addend = h.1.1.1 i })
    (λ e. (
      ap (λ (x : Relocation). x.offset) e,
      (ap (λ (x : Relocation). x.symbol) e, (ap (λ (x : Relocation). x.kind) e, ap (λ (x : Relocation). x.addend) e)),
    ))

body_decides : (a b : BodyValue) → Decides (is_same_body a b) (a ≡ b)
body_decides (bits t b) (bits u c) =
    instead (is_same_body (bits t b) (bits u c)) (both (nat_eq t u) _ (unsigned_Decides t u) (text_decides b c))
    (λ h i. bits (h.0 i) (h.1 i)) (λ e. (cc, cc))
body_decides (bits t b) (no_bits m) = never (λ e. cc)
body_decides (bits t b) (relocs r j es) = never (λ e. cc)
body_decides (bits t b) (group d j ns) = never (λ e. cc)
body_decides (no_bits n) (bits u c) = never (λ e. cc)
body_decides (no_bits n) (no_bits m) = instead (nat_eq n m) (unsigned_Decides n m) (λ e. ap no_bits e) (λ e. cc)
body_decides (no_bits n) (relocs r j es) = never (λ e. cc)
body_decides (no_bits n) (group d j ns) = never (λ e. cc)
body_decides (relocs q i ds) (bits u c) = never (λ e. cc)
body_decides (relocs q i ds) (no_bits m) = never (λ e. cc)
body_decides (relocs q i ds) (relocs r j es) =
    instead (is_same_body (relocs q i ds) (relocs r j es))
    (both _ _ (booleans_Decides q r) (both _ _ (unsigned_Decides i j) (pointwise_decides relocation_decides ds es)))
    (λ h k. relocs (h.0 k) (h.1.0 k) (h.1.1 k)) (λ e. (cc, (cc, cc)))
body_decides (relocs q i ds) (group d j ns) = never (λ e. cc)
body_decides (group c i ms) (bits u b) = never (λ e. cc)
body_decides (group c i ms) (no_bits m) = never (λ e. cc)
body_decides (group c i ms) (relocs r j es) = never (λ e. cc)
body_decides (group c i ms) (group d j ns) =
    instead (is_same_body (group c i ms) (group d j ns))
    (both _ _ (booleans_Decides c d) (both _ _ (unsigned_Decides i j) (text_decides ms ns)))
    (λ h k. group (h.0 k) (h.1.0 k) (h.1.1 k)) (λ e. (cc, (cc, cc)))

section_decides : (a b : SectionValue) → Decides (is_same_section a b) (a ≡ b)
section_decides a b =
    instead (is_same_section a b)
    (both _ _ (text_decides a.name b.name)
    (both _ _ (unsigned_Decides a.flags b.flags)
    (both _ _ (unsigned_Decides a.addr b.addr)
    (both _ _ (unsigned_Decides a.align b.align)
    (both _ _ (unsigned_Decides a.entsize b.entsize)
    (both _ _ (position_decides a.link b.link)
    (both _ _ (info_decides a.info b.info)
    (body_decides a.body b.body))))))))
    (λ h i. record {
      name = h.0 i;
      flags = h.1.0 i;
      addr = h.1.1.0 i;
      align = h.1.1.1.0 i;
      entsize = h.1.1.1.1.0 i;
      link = h.1.1.1.1.1.0 i;
      info =
          h.1.1.1.1.1.1.0 i;
      body = h.1.1.1.1.1.1.1 i;
    })
    (λ e. (
      ap (λ (x : SectionValue). x.name) e,
      (
        ap (λ (x : SectionValue). x.flags) e,
        (
          ap (λ (x : SectionValue). x.addr) e,
          (
            ap (λ (x : SectionValue). x.align) e,
            (
              ap (λ (x : SectionValue). x.entsize) e,
              (ap (λ (x : SectionValue). x.link) e, (ap (λ (x : SectionValue). x.info) e, ap (λ (x : SectionValue). x.body) e)),
            ),
          ),
        ),
      ),
    ))

place_decides : (a b : Place) → Decides (is_same_place a b) (a ≡ b)
place_decides Undef Undef = (λ e. refl, λ e. refl)
place_decides Undef Abs = never (λ e. cc)
place_decides Undef Common = never (λ e. cc)
place_decides Undef (In j) = never (λ e. cc)
place_decides Abs Undef = never (λ e. cc)
place_decides Abs Abs = (λ e. refl, λ e. refl)
place_decides Abs Common = never (λ e. cc)
place_decides Abs (In j) = never (λ e. cc)
place_decides Common Undef = never (λ e. cc)
place_decides Common Abs = never (λ e. cc)
place_decides Common Common = (λ e. refl, λ e. refl)
place_decides Common (In j) = never (λ e. cc)
place_decides (In i) Undef = never (λ e. cc)
place_decides (In i) Abs = never (λ e. cc)
place_decides (In i) Common = never (λ e. cc)
place_decides (In i) (In j) = instead (nat_eq i j) (unsigned_Decides i j) (λ e. ap In e) (λ e. cc)

symbol_decides : (a b : SymbolValue) → Decides (is_same_symbol a b) (a ≡ b)
symbol_decides a b =
    instead (is_same_symbol a b)
    (both _ _ (text_decides a.name b.name)
    (both _ _ (unsigned_Decides a.info b.info)
    (both _ _ (unsigned_Decides a.other b.other)
    (both _ _ (place_decides a.place b.place)
    (both _ _ (unsigned_Decides a.value b.value)
    (unsigned_Decides a.size b.size))))))
    (λ h i. record { name = h.0 i; info = h.1.0 i; other = h.1.1.0 i; place = h.1.1.1.0 i; value = h.1.1.1.1.0 i; size = h.1.1.1.1.1 i })
    (λ e. (
      ap (λ (x : SymbolValue). x.name) e,
      (
        ap (λ (x : SymbolValue). x.info) e,
        (
          ap (λ (x : SymbolValue). x.other) e,
          (ap (λ (x : SymbolValue). x.place) e, (ap (λ (x : SymbolValue). x.value) e, ap (λ (x : SymbolValue). x.size) e)),
        ),
      ),
    ))

pub object_decides : (a b : ObjectValue) → Decides (is_same_object a b) (a ≡ b)
object_decides a b =
    instead (is_same_object a b)
    (both _ _ (order_decides a.order b.order)
    (both _ _ (unsigned_Decides a.osabi b.osabi)
    (both _ _ (unsigned_Decides a.abi b.abi)
    (both _ _ (unsigned_Decides a.machine b.machine)
    (both _ _ (unsigned_Decides a.flags b.flags)
    (both _ _ (pointwise_decides section_decides a.sections b.sections)
    (pointwise_decides symbol_decides a.symbols b.symbols)))))))
    (λ h i. record {
      order = h.0 i;
      osabi = h.1.0 i;
      abi = h.1.1.0 i;
      machine = h.1.1.1.0 i;
      flags = h.1.1.1.1.0 i;
      sections = h.1.1.1.1.1.0 i;
      symbols =
          h.1.1.1.1.1.1 i;
    })
    (λ e. (
      ap (λ (x : ObjectValue). x.order) e,
      (
        ap (λ (x : ObjectValue). x.osabi) e,
        (
          ap (λ (x : ObjectValue). x.abi) e,
          (
            ap (λ (x : ObjectValue). x.machine) e,
            (ap (λ (x : ObjectValue). x.flags) e, (ap (λ (x : ObjectValue). x.sections) e, ap (λ (x : ObjectValue). x.symbols) e)),
          ),
        ),
      ),
    ))

pub relocations_decide : (rs ss : List Relocation) → Decides (are_same_relocations rs ss) (rs ≡ ss)
relocations_decide = pointwise_decides relocation_decides

pub relocations_equivalence : IsEquivalence are_same_relocations
relocations_equivalence = decided are_same_relocations relocations_decide

pub relocations_partial_equivalence : IsPartialEquivalence are_same_relocations
relocations_partial_equivalence = partial_equiv_from_equiv relocations_equivalence

pub object_equivalence : IsEquivalence is_same_object
object_equivalence = decided is_same_object object_decides

pub object_partial_equivalence : IsPartialEquivalence is_same_object
object_partial_equivalence = partial_equiv_from_equiv object_equivalence
