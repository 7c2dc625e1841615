-- Without the symbols that are left out each relocation has the same number in the same field: its symbol is there still, and has the value
-- that it had. So memory has the same bytes, and the same rule of relocations is broken first, at the same site.
use Rattle.std.proofs.Common.{◌≡◌, ◌≢◌, ◌∙◌, ◌<◌, ◌+◌, Bool, ℕ, List, ap, ap₂, arith, false, get_or, inl, inr, length, map}
use Rattle.std.proofs.Common.{refl, sym, true}
use Rattle.std.proofs.Math.ListN.{get_or-map}
use Rattle.std.proofs.lemmas.Bool.{cases_lt}
use Rattle.std.proofs.lemmas.List.{get_or_past}
use Rattle.std.specs.Prelude.{MatchOption, None, Option, Some, ℤ, if◌then◌else◌, nat_eq, option_map}
use Rattle.elf_extent.specs.Extent.{Never}
use Rattle.elf_field.specs.Abi.{STB_LOCAL}
use Rattle.elf_field.specs.declared.number.Order.{Order}
use Rattle.elf_link_field.specs.Field.{addend_at, relocation_number, size_of}
use Rattle.elf_link_field.specs.declared.rule.RelocRule.{RelocRule}
use Rattle.elf_link_files.specs.Files.{no_object, object_at, symbol_in}
use Rattle.elf_link_files.specs.Rows.{entries, site}
use Rattle.elf_link_files.specs.declared.fault.Options.{Options}
use Rattle.elf_link_files.specs.declared.site.Site.{Site}
use Rattle.elf_link_map.specs.LinkMap.{IsBinding, IsCommonNamed, IsLinkMap, IsMapOf, LinkMapValue, LinkPlan, bound_in}
use Rattle.elf_link_map.specs.Standing.{address_in}
use Rattle.elf_link_map.specs.declared.bindings.Binding.TheVariants.{Strong, Common, Weak, Zero}
use Rattle.elf_link_map.specs.declared.bindings.Binding.{Binding}
use Rattle.elf_link_names.proofs.Public.{one_common}
use Rattle.elf_link_names.specs.Resolution.{IsCommonOf}
use Rattle.elf_link_outputs.specs.Placed.{CommonValue, common_at}
use Rattle.elf_link_relocate.specs.Fields.{addend_of, binding_value, body_at, bound_value, content_at, content_in, content_of}
use Rattle.elf_link_relocate.specs.Fields.{definition_value}
use Rattle.elf_link_relocate.specs.Fields.{entries_of, entry_at, field_address, is_rela, name_value, number_at, place_value}
use Rattle.elf_link_relocate.specs.Fields.{reference_value}
use Rattle.elf_link_relocate.specs.Fields.{resolved_value, target_at, target_of, value_at}
use Rattle.elf_object_type.specs.Object.{BodyValue, ObjectValue, SectionValue, SymbolValue, binding, bits, group, no_bits, no_relocation}
use Rattle.elf_object_type.specs.Object.{no_symbol, relocs}
use Rattle.elf_object_type.specs.declared.parts.Place.TheVariants as place
use Rattle.elf_object_type.specs.declared.parts.Place.{Place}
use Rattle.elf_object_type.specs.declared.relocations.Relocation.{Relocation}
use Rattle.elf_tool_laws.proofs.LeftOutNames.{bindings_after}
use Rattle.elf_tool_laws.proofs.LeftOutPlans.{body_before, section_before, symbol_before}
use Rattle.elf_tool_laws.specs.LeftOut.{AreLessSymbols, IsBindingAfter, body_by, relocation_by, with_bindings}

-- ---- bodies

pub entries_by : (at : ℕ → ℕ) (b : BodyValue) → entries_of (body_by at b) ≡ map (relocation_by at) (entries_of b)
entries_by at (bits type content) = refl
entries_by at (no_bits size) = refl
entries_by at (relocs rela target entries) = refl
entries_by at (group comdat signature members) = refl

target_by : (at : ℕ → ℕ) (b : BodyValue) → target_of (body_by at b) ≡ target_of b
target_by at (bits type content) = refl
target_by at (no_bits size) = refl
target_by at (relocs rela target entries) = refl
target_by at (group comdat signature members) = refl

rela_by : (at : ℕ → ℕ) (b : BodyValue) → is_rela (body_by at b) ≡ is_rela b
rela_by at (bits type content) = refl
rela_by at (no_bits size) = refl
rela_by at (relocs rela target entries) = refl
rela_by at (group comdat signature members) = refl

content_by : (at : ℕ → ℕ) (b : BodyValue) → content_of (body_by at b) ≡ content_of b
content_by at (bits type content) = refl
content_by at (no_bits size) = refl
content_by at (relocs rela target entries) = refl
content_by at (group comdat signature members) = refl

-- ---- choices

if_same : {A : Type 0} (b c : Bool) (x y u v : A) → b ≡ c → x ≡ u → (c ≡ false → y ≡ v) → (if b then x else y) ≡ (if c then u else v)
if_same true true x y u v same first second = first
if_same true false x y u v same first second = absurd cc
if_same false true x y u v same first second = absurd cc
if_same false false x y u v same first second = second refl

not_local : (n : ℕ) → nat_eq n STB_LOCAL ≡ false → n ≢ STB_LOCAL
not_local n is same = (let yes : nat_eq n STB_LOCAL ≡ true = ap (λ (k : ℕ). nat_eq k STB_LOCAL) same in absurd cc)

-- the value of a place has nothing to do with names
place_alone : (m : LinkMapValue) (bs : List (List ℕ × Binding)) (f : ℕ) (p : Place) (v : ℕ) →
    place_value (with_bindings m bs) f p v ≡ place_value m f p v
place_alone m bs f place.Undef v = refl
place_alone m bs f place.Abs v = refl
place_alone m bs f place.Common v = refl
place_alone m bs f (place.In s) v = refl

module _ (fs gs : List ObjectValue) (at : ℕ → ℕ → ℕ) (r : AreLessSymbols fs gs at) (opt : Options) (m : LinkMapValue)
    (bs : List (List ℕ × Binding)) (is : IsLinkMap opt fs (with_bindings m bs)) (also : IsLinkMap opt gs m) where
  -- ---- the value of a symbol

  definition_same : (f j : ℕ) → definition_value fs (with_bindings m bs) f (at f j) ≡ definition_value gs m f j
  definition_same f j =
      place_alone m bs f (symbol_in fs f (at f j)).place (symbol_in fs f (at f j)).value
      ∙ ap (λ (s : SymbolValue). place_value m f s.place s.value) (sym (symbol_before fs gs at r f j))

  -- the common at a position has the name of the chosen one
  common_named : (l : LinkPlan) (name : List ℕ) (k : ℕ) → IsMapOf opt fs l (with_bindings m bs) → IsCommonNamed m.commons name k →
      IsCommonOf fs l.plan.commons name k
  common_named l name k of (lt, named) =
      let count = of.commons.count in
      let k_in : k < length l.plan.commons = omega arith in
      (k_in, sym (ap (λ (c : CommonValue). c.name) (of.commons.each k k_in)) ∙ named)

  common_address : (name : List ℕ) (a b : ℕ) → ((k : ℕ) × IsCommonNamed m.commons name k × ((common_at m.commons k).address ≡ a)) →
      ((k : ℕ) × IsCommonNamed m.commons name k × ((common_at m.commons k).address ≡ b)) → a ≡ b
  common_address name a b (j, one, here) (k, other, there) =
      let (l, plan, of) = is in
      let same = one_common fs l.plan.commons name j k plan.plan.commons (common_named l name j of one) (common_named l name k of other) in
      sym here ∙ ap (λ (i : ℕ). (common_at m.commons i).address) same ∙ there

  binding_same : (name : List ℕ) (b d : Binding) → IsBinding fs m.commons name b → IsBinding gs m.commons name d →
      IsBindingAfter at (Some b) (Some d) → binding_value fs (with_bindings m bs) b ≡ binding_value gs m d
  binding_same name (Strong f i) (Strong g j) one other (file, symbol) =
      ap₂ (λ (x y : ℕ). definition_value fs (with_bindings m bs) x y) (sym file) (sym symbol) ∙ definition_same g j
  binding_same name (Common a size align) (Common b n o) (binds, one) (bound, other) same =
      ap (λ (x : ℕ). Some x) (common_address name a b one other)
  binding_same name (Weak f i) (Weak g j) one other (file, symbol) =
      ap₂ (λ (x y : ℕ). definition_value fs (with_bindings m bs) x y) (sym file) (sym symbol) ∙ definition_same g j
  binding_same name Zero Zero one other same = refl
  binding_same name (Strong f i) (Common b n o) one other same = absurd same
  binding_same name (Strong f i) (Weak g j) one other same = absurd same
  binding_same name (Strong f i) Zero one other same = absurd same
  binding_same name (Common a size align) (Strong g j) one other same = absurd same
  binding_same name (Common a size align) (Weak g j) one other same = absurd same
  binding_same name (Common a size align) Zero one other same = absurd same
  binding_same name (Weak f i) (Strong g j) one other same = absurd same
  binding_same name (Weak f i) (Common b n o) one other same = absurd same
  binding_same name (Weak f i) Zero one other same = absurd same
  binding_same name Zero (Strong g j) one other same = absurd same
  binding_same name Zero (Common b n o) one other same = absurd same
  binding_same name Zero (Weak g j) one other same = absurd same

  bound_same : (name : List ℕ) (b d : Option Binding) → MatchOption b (Never (entries fs name)) (IsBinding fs m.commons name) →
      MatchOption d (Never (entries gs name)) (IsBinding gs m.commons name) → IsBindingAfter at b d → (q : Site) → entries gs name q →
      bound_value fs (with_bindings m bs) b ≡ bound_value gs m d
  bound_same name None None one other same q entry = refl
  bound_same name None (Some d) one other same q entry = absurd same
  bound_same name (Some b) None one other same q entry = absurd (other q entry)
  bound_same name (Some b) (Some d) one other same q entry = binding_same name b d one other same

  name_same : (name : List ℕ) (q : Site) → entries gs name q → name_value fs (with_bindings m bs) name ≡ name_value gs m name
  name_same name q entry =
      let (l, plan, of) = is in
      let (k, planned, after) = also in
      bound_same name (bound_in bs name) (bound_in m.bindings name) (of.bindings name) (after.bindings name)
      (bindings_after fs gs at r name opt opt (with_bindings m bs) m is also) q entry

  -- a symbol that is not local is one of the file
  there_if_global : (f j : ℕ) → binding (symbol_in gs f j) ≢ STB_LOCAL → j < length (object_at gs f).symbols
  there_if_global f j global = elim (cases_lt j (length (object_at gs f).symbols)) [
    | inl below ↦ below
    | inr past ↦ absurd (global (ap (λ (s : SymbolValue). binding s) (get_or_past (object_at gs f).symbols j no_symbol past)))
  ]

  symbol_same : (f j : ℕ) → f < length gs → resolved_value fs (with_bindings m bs) f (at f j) ≡ resolved_value gs m f j
  symbol_same f j f_in =
      let same = symbol_before fs gs at r f j in
      let name = (symbol_in gs f j).name in
      if_same (nat_eq (binding (symbol_in fs f (at f j))) STB_LOCAL) (nat_eq (binding (symbol_in gs f j)) STB_LOCAL)
      (definition_value fs (with_bindings m bs) f (at f j)) (name_value fs (with_bindings m bs) (symbol_in fs f (at f j)).name)
      (definition_value gs m f j) (name_value gs m name)
      (ap (λ (s : SymbolValue). nat_eq (binding s) STB_LOCAL) (sym same)) (definition_same f j)
      (λ no. (
      let global = not_local (binding (symbol_in gs f j)) no in
      ap (λ (s : SymbolValue). name_value fs (with_bindings m bs) s.name) (sym same)
      ∙ name_same name (site f j) (f_in, there_if_global f j global, (global, refl), refl)))

  reference_same : (f : ℕ) (symbol : Option ℕ) → f < length gs →
      reference_value fs (with_bindings m bs) f (option_map (at f) symbol) ≡ reference_value gs m f symbol
  reference_same f None f_in = refl
  reference_same f (Some j) f_in = symbol_same f j f_in

  -- ---- the number of a field

  pub entry_before : (p : Site) → relocation_by (at p.file) (entry_at gs p) ≡ entry_at fs p
  entry_before p =
      let entries = ap (λ (x : SectionValue). entries_of x.body) (section_before fs gs at r p.file p.index) in
      sym (get_or-map (relocation_by (at p.file)) (entries_of (body_at gs p)) p.entry no_relocation)
      ∙ ap (λ (es : List Relocation). get_or es p.entry no_relocation) (sym (entries_by (at p.file) (body_at gs p)) ∙ entries)

  pub target_before : (p : Site) → target_at gs p ≡ target_at fs p
  target_before p = body_before fs gs at r target_of target_by p.file p.index

  pub content_before : (f s : ℕ) → content_in gs f s ≡ content_in fs f s
  content_before f s = body_before fs gs at r content_of content_by f s

  pub value_same : (p : Site) → p.file < length gs → value_at fs (with_bindings m bs) p ≡ value_at gs m p
  value_same p f_in =
      ap (λ (e : Relocation). reference_value fs (with_bindings m bs) p.file e.symbol) (sym (entry_before p))
      ∙ reference_same p.file (entry_at gs p).symbol f_in

  pub order_before : (f : ℕ) → (object_at gs f).order ≡ (object_at fs f).order
  order_before f = elim (cases_lt f (length fs)) [
    | inl f_in ↦ (r.each f f_in).order
    | inr past ↦ (
        let files = r.files in
        ap (λ (o : ObjectValue). o.order) (get_or_past gs f no_object (omega arith) ∙ sym (get_or_past fs f no_object past)))
  ]

  pub target_content_before : (p : Site) → content_at gs p ≡ content_at fs p
  target_content_before p = content_before p.file (target_at gs p) ∙ ap (content_in fs p.file) (target_before p)

  addend_same : (p : Site) (rule : RelocRule) → addend_of fs p rule ≡ addend_of gs p rule
  addend_same p rule =
      ap₂ (λ (rela : Bool) (e : Relocation). if rela then e.addend
      else addend_at (object_at fs p.file).order rule.range (content_at fs p) e.offset (size_of rule.width))
      (sym (body_before fs gs at r is_rela rela_by p.file p.index)) (sym (entry_before p))
      ∙ ap₂ (λ (order : Order) (content : List ℕ). if is_rela (body_at gs p) then (entry_at gs p).addend
      else addend_at order rule.range content (entry_at gs p).offset (size_of rule.width))
      (sym (order_before p.file)) (sym (target_content_before p))

  pub address_same : (p : Site) → field_address fs (with_bindings m bs) p ≡ field_address gs m p
  address_same p =
      ap₂ (λ (t : ℕ) (e : Relocation). address_in m p.file t + e.offset) (sym (target_before p)) (sym (entry_before p))

  pub number_same : (p : Site) (rule : RelocRule) → p.file < length gs → number_at fs (with_bindings m bs) p rule ≡ number_at gs m p rule
  number_same p rule f_in =
      ap₂ (λ (a : ℤ) (x : ℕ). option_map (λ value. relocation_number rule.form value a x) (value_at fs (with_bindings m bs) p))
      (addend_same p rule) (address_same p)
      ∙ ap (option_map (λ value. relocation_number rule.form value (addend_of gs p rule) (field_address gs m p))) (value_same p f_in)
