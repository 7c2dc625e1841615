-- There is one map of the files of a link: its names, bindings, commons and places follow from them.
use Rattle.std.proofs.Common.{◌≡◌, ℕ, ◌<◌, Bool, List, [], ◌∷◌, get_or, length, map, zero, suc, refl, sym, ◌∙◌, ap, ap₂, subst, arith, ◌≢◌}
use Rattle.std.proofs.Common.{◌↔◌, ◌+◌, true, false}
use Rattle.std.specs.Prelude.{cond, Option, None, Some, MatchOption, unwrap_or}
use Rattle.std.specs.Str.{bytes_eq}
use Rattle.std.proofs.lemmas.Slice.Eq.{bytes_eq-Decides}
use Rattle.std.proofs.lemmas.List.{get_or-map, length-map, ext_get_or}
use Rattle.elf_extent.proofs.Public.{same_least}
use Rattle.elf_extent.specs.Extent.{Never}
use Rattle.elf_field.specs.Abi.{STB_LOCAL}
use Rattle.elf_link_files.proofs.Public.{match_map, not_true, one_each, one_site_list}
use Rattle.elf_link_files.specs.Files.{object_at, symbol_in, AreDiscardMarks, Discarded, mark}
use Rattle.elf_link_files.specs.Rows.{Lists, site_at, name_at, site, chosen_at, entries}
use Rattle.elf_link_files.specs.declared.fault.Options.{Options}
use Rattle.elf_link_files.specs.declared.site.Chosen.{Chosen}
use Rattle.elf_link_files.specs.declared.site.Site.{Site}
use Rattle.elf_link_map.proofs.Plans.{one_link_plan}
use Rattle.elf_link_map.specs.LinkMap.{AreBindings, AreNames, IsBinding, bound_in, no_name, IsSomeLinkMap, LinkMapValue, IsCommonNamed}
use Rattle.elf_link_map.specs.LinkMap.{IsLinkMap, IsLinkPlan, IsMapOf, LinkPlan, link_parts}
use Rattle.elf_link_map.specs.Naming.{AreBindingPositions, AreNamedAt, AreBindingIndexes, AreIndexesIn, IsBindingAt, AreCommonNames}
use Rattle.elf_link_map.specs.declared.bindings.Binding.TheVariants.{Common as CommonBinding, Strong, Common, Weak, Zero}
use Rattle.elf_link_map.specs.declared.bindings.Binding.{Binding}
use Rattle.elf_link_names.proofs.Public.{names_once, entry_listed, one_choice, one_common}
use Rattle.elf_link_names.specs.Binds.{first_entries, Binds}
use Rattle.elf_link_names.specs.KnownNames.{ArePositionsOf, AreNameIndexes}
use Rattle.elf_link_names.specs.Resolution.{IsCommonOf, AreChosen}
use Rattle.elf_link_names.specs.declared.name_rules.Choice.TheVariants.{Common as CommonChoice, Strong as StrongChoice, Weak as WeakChoice}
use Rattle.elf_link_names.specs.declared.name_rules.Choice.TheVariants.{Zero as ZeroChoice}
use Rattle.elf_link_names.specs.declared.name_rules.Choice.{Choice}
use Rattle.elf_link_outputs.specs.Addresses.{HasValue, target_value}
use Rattle.elf_link_outputs.specs.Outputs.{placed}
use Rattle.elf_link_outputs.specs.Placed.{CommonValue, ArePlacedCommons, no_placed, common_value, AreAddresses, ArePlacedOutputs, IsOutput}
use Rattle.elf_link_outputs.specs.Placed.{OutputValue, cell, common_at, members_at, no_output, placed_common, start_of}
use Rattle.elf_link_outputs.specs.declared.addresses.Target.{Target}
use Rattle.elf_link_outputs.specs.declared.placing.Common.{Common as PlacedCommon}
use Rattle.elf_link_outputs.specs.declared.placing.Member.{Member}
use Rattle.elf_object_type.specs.Object.{ObjectValue, binding}

-- The names of a link map by position. The list has each name once, in the order of first entries (`names_once`). So a name is bound by the
-- item at its position (`bound_first`), and a name without entries by none.

-- ---- what a list has of a name

pub bound_first : (bs : List (List ℕ × Binding)) (q : List ℕ) (k : ℕ) → k < length bs → (get_or bs k no_name).0 ≡ q →
    ((j : ℕ) → j < k → (get_or bs j no_name).0 ≡ q → ⊥) → bound_in bs q ≡ Some (get_or bs k no_name).1
bound_first [] q k lt is none = absurd (omega arith)
bound_first (b ∷ bs) q zero lt is none = ap (λ (t : Bool). cond t (Some b.1) (bound_in bs q)) ((bytes_eq-Decides q b.0).1 (sym is))
bound_first (b ∷ bs) q (suc k) lt is none =
    ap (λ (t : Bool). cond t (Some b.1) (bound_in bs q))
    (not_true (bytes_eq q b.0) (λ equal. none 0 (omega arith) (sym ((bytes_eq-Decides q b.0).0 equal)))) ∙
    bound_first bs q k (omega arith) is (λ j below. none (suc j) (omega arith))

pub bound_never : (bs : List (List ℕ × Binding)) (q : List ℕ) → ((j : ℕ) → j < length bs → (get_or bs j no_name).0 ≡ q → ⊥) →
    bound_in bs q ≡ None
bound_never [] q none = refl
bound_never (b ∷ bs) q none =
    ap (λ (t : Bool). cond t (Some b.1) (bound_in bs q))
    (not_true (bytes_eq q b.0) (λ equal. none 0 (omega arith) (sym ((bytes_eq-Decides q b.0).0 equal)))) ∙
    bound_never bs q (λ j below. none (suc j) (omega arith))

-- ---- all names

pub bound_here : (fs : List ObjectValue) (cs : List CommonValue) (ps : List Site) (bs : List (List ℕ × Binding)) (name : List ℕ) (k : ℕ) →
    Lists (first_entries fs) ps → AreNamedAt fs cs ps (length ps) bs → k < length ps → name_at fs (site_at ps k) ≡ name →
    bound_in bs name ≡ Some (get_or bs k no_name).1
bound_here fs cs ps bs name k are named lt is =
    let count = named.count in
    bound_first bs name k (omega arith) ((named.each k lt).0 ∙ is)
    (λ j below same. names_once fs ps are j k below lt name (sym (named.each j (omega arith)).0 ∙ same) is)

bound_nowhere : (fs : List ObjectValue) (cs : List CommonValue) (ps : List Site) (bs : List (List ℕ × Binding)) (name : List ℕ) →
    AreNamedAt fs cs ps (length ps) bs → ((k : ℕ) → k < length ps → name_at fs (site_at ps k) ≡ name → ⊥) → bound_in bs name ≡ None
bound_nowhere fs cs ps bs name named none =
    let count = named.count in
    bound_never bs name (λ j below same. none j (omega arith) (sym (named.each j (omega arith)).0 ∙ same))

pub positions_are : (fs : List ObjectValue) (cs : List CommonValue) (ps : List Site) (bs : List (List ℕ × Binding))
    (position : List ℕ → Option ℕ) →
    Lists (first_entries fs) ps → AreNamedAt fs cs ps (length ps) bs → ArePositionsOf fs ps (length ps) position →
    AreBindingPositions bs position
positions_are fs cs ps bs position are named at name =
    let count = named.count in
    match_map (position name) _ (bound_in bs name ≡ None) _ (λ k. (k < length bs) × (bound_in bs name ≡ Some (get_or bs k no_name).1))
    (λ none. bound_nowhere fs cs ps bs name named none)
    (λ k (lt, is). (omega arith, bound_here fs cs ps bs name k are named lt is)) (at name)

bound_by : (fs : List ObjectValue) (cs : List CommonValue) (ps : List Site) (bs : List (List ℕ × Binding)) (name : List ℕ) (o : Option ℕ) →
    Lists (first_entries fs) ps → AreNamedAt fs cs ps (length ps) bs →
    MatchOption o ((k : ℕ) → k < length ps → name_at fs (site_at ps k) ≡ name → ⊥)
    (λ k. (k < length ps) × (name_at fs (site_at ps k) ≡ name)) →
    MatchOption (bound_in bs name) (Never (entries fs name)) (IsBinding fs cs name)
bound_by fs cs ps bs name None are named none =
    subst (λ (b : Option Binding). MatchOption b (Never (entries fs name)) (IsBinding fs cs name))
    (sym (bound_nowhere fs cs ps bs name named none))
    (λ p there. (let (k, lt, is) = entry_listed fs ps name p are there in none k lt is))
bound_by fs cs ps bs name (Some k) are named (lt, is) =
    subst (λ (b : Option Binding). MatchOption b (Never (entries fs name)) (IsBinding fs cs name))
    (sym (bound_here fs cs ps bs name k are named lt is))
    (subst (λ (n : List ℕ). IsBinding fs cs n (get_or bs k no_name).1) is (named.each k lt).1)

pub bindings_are : (fs : List ObjectValue) (cs : List CommonValue) (ps : List Site) (bs : List (List ℕ × Binding))
    (position : List ℕ → Option ℕ) →
    Lists (first_entries fs) ps → AreNamedAt fs cs ps (length ps) bs → ArePositionsOf fs ps (length ps) position → AreBindings fs cs bs
bindings_are fs cs ps bs position are named at name = bound_by fs cs ps bs name (position name) are named (at name)

names_same : (fs : List ObjectValue) (bs : List (List ℕ × Binding)) (ps : List Site) → length bs ≡ length ps →
    ((k : ℕ) → k < length ps → (get_or bs k no_name).0 ≡ name_at fs (site_at ps k)) → map (λ e. e.0) bs ≡ map (name_at fs) ps
names_same fs [] [] long each = refl
names_same fs [] (p ∷ ps) long each = absurd (omega arith)
names_same fs (b ∷ bs) [] long each = absurd (omega arith)
names_same fs (b ∷ bs) (p ∷ ps) long each =
    ap₂ ◌∷◌ (each 0 (omega arith)) (names_same fs bs ps (omega arith) (λ k lt. each (suc k) (omega arith)))

pub names_are : (fs : List ObjectValue) (cs : List CommonValue) (ps : List Site) (bs : List (List ℕ × Binding)) →
    Lists (first_entries fs) ps → AreNamedAt fs cs ps (length ps) bs → AreNames fs bs
names_are fs cs ps bs are named = (ps, are, names_same fs bs ps named.count (λ k lt. (named.each k lt).0))

-- ---- a name is looked up

pub position_found : (bs : List (List ℕ × Binding)) (position : List ℕ → Option ℕ) (name : List ℕ) (k : ℕ) → position name ≡ Some k →
    AreBindingPositions bs position →
    (k < length bs) × (bound_in bs name ≡ Some (get_or bs k no_name).1)
position_found bs position name k at are =
    subst (λ (o : Option ℕ). MatchOption o (bound_in bs name ≡ None)
    (λ j. (j < length bs) × (bound_in bs name ≡ Some (get_or bs j no_name).1))) at (are name)

-- The index of the name of a symbol, unless it is local, is the position of its binding in the link map. Both lists are in the order of
-- first entries. A search by name finds it too, since each name with an entry is bound.

pub indexes_bound : (fs : List ObjectValue) (m : LinkMapValue) (position : List ℕ → Option ℕ) (rows : List (List ℕ)) →
    AreNameIndexes fs position rows →
    AreBindingPositions m.bindings position → AreBindingIndexes fs m rows
unfolding AreNameIndexes AreBindingIndexes
indexes_bound fs m position rows are at = record {
  count = are.count;
  each = λ f f_in. record {
    count = (are.each f f_in).count;
    each = λ i i_in not_local. position_found m.bindings position (symbol_in fs f i).name (get_or (get_or rows f []) i 0)
        ((are.each f f_in).each i i_in not_local) at;
  };
}

-- the names of a resolution, with what each is bound to, in the order of their first entries
pub indexes_in : (fs : List ObjectValue) (cs : List CommonValue) (ps : List Site) (bindings names : List (List ℕ × Binding))
    (position : List ℕ → Option ℕ) (rows : List (List ℕ)) → Lists (first_entries fs) ps → AreNamedAt fs cs ps (length ps) bindings →
    ArePositionsOf fs ps (length ps) position → AreNameIndexes fs position rows → names ≡ bindings → AreIndexesIn fs names rows
indexes_in fs cs ps bindings names position rows firsts named positions are is m same =
    indexes_bound fs m position rows are
    (subst (λ (bs : List (List ℕ × Binding)). AreBindingPositions bs position) (sym (same ∙ is))
    (positions_are fs cs ps bindings position firsts named positions))

-- the name of a symbol that is not local is in the link map
entry_bound : (fs : List ObjectValue) (m : LinkMapValue) (f i : ℕ) → IsSomeLinkMap fs m → f < length fs →
    i < length (object_at fs f).symbols → binding (symbol_in fs f i) ≢ STB_LOCAL → bound_in m.bindings (symbol_in fs f i).name ≡ None → ⊥
entry_bound fs m f i (opt, base, page, entry, (l, plan, is)) f_in i_in not_local none =
    let name = (symbol_in fs f i).name in
    let never = subst (λ (o : Option Binding). MatchOption o (Never (entries fs name)) (IsBinding fs m.commons name)) none
    (is.bindings name) in
    never (site f i) (f_in, i_in, (not_local, refl), refl)

-- so its position is found
pub entry_index : (fs : List ObjectValue) (m : LinkMapValue) (f i : ℕ) (found : Option ℕ) → IsSomeLinkMap fs m → f < length fs →
    i < length (object_at fs f).symbols → binding (symbol_in fs f i) ≢ STB_LOCAL →
    MatchOption found (bound_in m.bindings (symbol_in fs f i).name ≡ None) (IsBindingAt m.bindings (symbol_in fs f i).name) →
    IsBindingAt m.bindings (symbol_in fs f i).name (unwrap_or found 0)
entry_index fs m f i None is f_in i_in not_local none = absurd (entry_bound fs m f i is f_in i_in not_local none)
entry_index fs m f i (Some k) is f_in i_in not_local here = here

-- The commons that have an address, by name. They are the chosen commons in order, each with its place, so a name that is bound to a
-- common finds its address there.

pub common_names : (fs : List ObjectValue) (cs : List Chosen) (places : List ℕ) (first : ℕ) (vs : List CommonValue) →
    ArePlacedCommons fs cs places first (length cs) vs → AreCommonNames fs cs vs
common_names fs cs places first vs are = record {
  count = are.count;
  each = λ k lt. ap (λ (v : CommonValue). v.name) (are.each k lt);
}

pub address_at : (cs : List PlacedCommon) (k : ℕ) (d : PlacedCommon) → k < length (map common_value cs) →
    (get_or (map common_value cs) k no_placed).address ≡ (get_or cs k d).address
address_at cs k d lt =
    let many = length-map cs common_value in
    ap (λ (v : CommonValue). v.address) (get_or-map common_value cs k d no_placed (omega arith))

-- a name that is bound to a common has its address
pub common_bound : (fs : List ObjectValue) (cs : List Chosen) (placed : List PlacedCommon) (name : List ℕ) (size align k : ℕ)
    (d : PlacedCommon) →
    Binds fs name (CommonChoice size align) → IsCommonOf fs cs name k → AreCommonNames fs cs (map common_value placed) →
    IsBinding fs (map common_value placed) name (CommonBinding (get_or placed k d).address size align)
common_bound fs cs placed name size align k d binds (lt, named) are =
    let count = are.count in
    let within : k < length (map common_value placed) = omega arith in
    (binds, (k, (within, are.each k lt ∙ named), address_at placed k d within))

-- Objects and options have at most one link map, since they have one plan (`one_link_plan`). Two maps of it agree field by field: addresses
-- and marks by cell, outputs and commons by item, bindings by name.

-- ---- addresses and marks

one_cell : (fs : List ObjectValue) (ps : List Site) (places : List ℕ) (rows cells : List (List (Option ℕ))) (f s : ℕ) →
    AreAddresses fs ps places rows →
    AreAddresses fs ps places cells → (o : Option ℕ) → cell rows f s ≡ o → cell rows f s ≡ cell cells f s
one_cell fs ps places rows cells f s one other None at = at ∙ sym ((other.none f s).1 ((one.none f s).0 at))
one_cell fs ps places rows cells f s one other (Some a) at =
    let (k, lt, file, index) = one.only f s a at in
    ap₂ (λ (g t : ℕ). cell rows g t) (sym file) (sym index) ∙ one.placed k lt ∙ sym (other.placed k lt) ∙
    ap₂ (λ (g t : ℕ). cell cells g t) file index

one_addresses : (fs : List ObjectValue) (ps : List Site) (places : List ℕ) (rows cells : List (List (Option ℕ))) →
    AreAddresses fs ps places rows →
    AreAddresses fs ps places cells → rows ≡ cells
one_addresses fs ps places rows cells one other = ext_get_or [] rows cells (one.files ∙ sym other.files) (λ f lt. (
    let within : f < length fs = (let files = one.files in omega arith) in
    ext_get_or None (get_or rows f []) (get_or cells f []) (one.long f within ∙ sym (other.long f within))
    (λ s below. one_cell fs ps places rows cells f s one other (cell rows f s) refl)))

one_mark : (P : Type 0) (a b : Bool) → (a ≡ true) ↔ P → (b ≡ true) ↔ P → a ≡ b
one_mark P true true one other = refl
one_mark P true false one other = sym (other.1 (one.0 refl))
one_mark P false true one other = one.1 (other.0 refl)
one_mark P false false one other = refl

one_discarded : (fs : List ObjectValue) (marks others : List (List Bool)) → AreDiscardMarks fs marks → AreDiscardMarks fs others →
    marks ≡ others
one_discarded fs marks others one other = ext_get_or [] marks others (one.files ∙ sym other.files) (λ f lt. (
    let within : f < length fs = (let files = one.files in omega arith) in
    ext_get_or false (get_or marks f []) (get_or others f []) (one.long f within ∙ sym (other.long f within))
    (λ s below. (
    let inside : s < length (object_at fs f).sections = (let long = one.long f within in omega arith) in
    one_mark (Discarded fs f s) (mark marks f s) (mark others f s) (one.right f s within inside) (other.right f s within inside)))))

-- ---- outputs and commons

abbrev output_of : List ℕ → ℕ → Bool → ℕ → ℕ → List Member → OutputValue
output_of name flags no_bits address long members =
    record { name = name; flags = flags; no_bits = no_bits; address = address; length = long; members = members }

same_output : (o p : OutputValue) → o.name ≡ p.name → o.flags ≡ p.flags → o.no_bits ≡ p.no_bits → o.address ≡ p.address →
    o.length ≡ p.length →
    o.members ≡ p.members → o ≡ p
same_output o p name flags no_bits address long members =
    ap (λ (x : List ℕ). output_of x o.flags o.no_bits o.address o.length o.members) name ∙
    ap (λ (x : ℕ). output_of p.name x o.no_bits o.address o.length o.members) flags ∙
    ap (λ (x : Bool). output_of p.name p.flags x o.address o.length o.members) no_bits ∙
    ap (λ (x : ℕ). output_of p.name p.flags p.no_bits x o.length o.members) address ∙
    ap (λ (x : ℕ). output_of p.name p.flags p.no_bits p.address x o.members) long ∙
    ap (λ (x : List Member). output_of p.name p.flags p.no_bits p.address p.length x) members

one_output : (fs : List ObjectValue) (ms : List Site) (parts : List (ℕ × ℕ)) (places : List ℕ) (start : ℕ) (o p : OutputValue) →
    IsOutput fs ms parts places start o → IsOutput fs ms parts places start p → o ≡ p
one_output fs ms parts places start o p one other =
    let address = one.address ∙ sym other.address in
    let end = one.end ∙ sym other.end in
    same_output o p (one.name ∙ sym other.name) (one.flags ∙ sym other.flags) (one.no_bits ∙ sym other.no_bits) address (omega arith)
    (one.members ∙ sym other.members)

one_output_list : (fs : List ObjectValue) (oss : List (List Site)) (parts : List (ℕ × ℕ)) (places : List ℕ) (os ps : List OutputValue) →
    ArePlacedOutputs fs oss parts places (length oss) os → ArePlacedOutputs fs oss parts places (length oss) ps → os ≡ ps
one_output_list fs oss parts places os ps one other =
    one_each no_output (λ k. IsOutput fs (members_at oss k) parts places (start_of oss k)) (length oss) os ps
    (λ k o p lt. one_output fs (members_at oss k) parts places (start_of oss k) o p) one other

one_commons : (fs : List ObjectValue) (cs : List Chosen) (places : List ℕ) (first : ℕ) (vs ws : List CommonValue) →
    ArePlacedCommons fs cs places first (length cs) vs → ArePlacedCommons fs cs places first (length cs) ws → vs ≡ ws
one_commons fs cs places first vs ws one other =
    one_each no_placed (λ k c. c ≡ placed_common fs places (first + k) (chosen_at cs k)) (length cs) vs ws
    (λ k v w lt here there. here ∙ sym there) one other

-- ---- bindings

-- the common that has a name is the chosen one
common_of : (fs : List ObjectValue) (cs : List Chosen) (places : List ℕ) (first : ℕ) (vs : List CommonValue) (name : List ℕ) (k : ℕ) →
    ArePlacedCommons fs cs places first (length cs) vs → IsCommonNamed vs name k → IsCommonOf fs cs name k
common_of fs cs places first vs name k are (lt, named) =
    let within : k < length cs = (let count = are.count in omega arith) in
    (within, ap (λ (v : CommonValue). v.name) (sym (are.each k within)) ∙ named)

one_named : (fs : List ObjectValue) (cs : List Chosen) (places : List ℕ) (first : ℕ) (vs : List CommonValue) (name : List ℕ) (j k : ℕ) →
    AreChosen fs cs →
    ArePlacedCommons fs cs places first (length cs) vs → IsCommonNamed vs name j → IsCommonNamed vs name k → j ≡ k
one_named fs cs places first vs name j k chosen are one other =
    one_common fs cs name j k chosen (common_of fs cs places first vs name j are one) (common_of fs cs places first vs name k are other)

-- a binding is made of a choice and of the address of a common
abbrev choice_of : Binding → Choice
choice_of (Strong f s) = StrongChoice f s
choice_of (Common address size align) = CommonChoice size align
choice_of (Weak f s) = WeakChoice f s
choice_of Zero = ZeroChoice

abbrev address_of : Binding → ℕ
address_of (Strong f s) = 0
address_of (Common address size align) = address
address_of (Weak f s) = 0
address_of Zero = 0

abbrev binding_of : ℕ → Choice → Binding
binding_of address (StrongChoice f s) = Strong f s
binding_of address (CommonChoice size align) = Common address size align
binding_of address (WeakChoice f s) = Weak f s
binding_of address ZeroChoice = Zero

made_again : (b : Binding) → binding_of (address_of b) (choice_of b) ≡ b
made_again (Strong f s) = refl
made_again (Common address size align) = refl
made_again (Weak f s) = refl
made_again Zero = refl

binds_choice : (fs : List ObjectValue) (vs : List CommonValue) (name : List ℕ) (b : Binding) → IsBinding fs vs name b →
    Binds fs name (choice_of b)
binds_choice fs vs name (Strong f s) is = is
binds_choice fs vs name (Common address size align) is = is.0
binds_choice fs vs name (Weak f s) is = is
binds_choice fs vs name Zero is = is

same_choice : (fs : List ObjectValue) (vs : List CommonValue) (name : List ℕ) (b c : Binding) → IsBinding fs vs name b →
    IsBinding fs vs name c →
    choice_of b ≡ choice_of c
same_choice fs vs name b c one other =
    one_choice fs name (choice_of b) (choice_of c) (binds_choice fs vs name b one) (binds_choice fs vs name c other)

one_binding : (fs : List ObjectValue) (vs : List CommonValue) (name : List ℕ) (b c : Binding) →
    ((j k : ℕ) → IsCommonNamed vs name j → IsCommonNamed vs name k → j ≡ k) →
    IsBinding fs vs name b → IsBinding fs vs name c → b ≡ c
one_binding fs vs name (Strong f s) c once one other =
    ap (binding_of (address_of c)) (same_choice fs vs name (Strong f s) c one other) ∙ made_again c
one_binding fs vs name (Weak f s) c once one other =
    ap (binding_of (address_of c)) (same_choice fs vs name (Weak f s) c one other) ∙ made_again c
one_binding fs vs name Zero c once one other = ap (binding_of (address_of c)) (same_choice fs vs name Zero c one other) ∙ made_again c
one_binding fs vs name (Common a size align) (Strong f s) once one other =
    ap (binding_of a) (same_choice fs vs name (Common a size align) (Strong f s) one other)
one_binding fs vs name (Common a size align) (Weak f s) once one other =
    ap (binding_of a) (same_choice fs vs name (Common a size align) (Weak f s) one other)
one_binding fs vs name (Common a size align) Zero once one other =
    ap (binding_of a) (same_choice fs vs name (Common a size align) Zero one other)
one_binding fs vs name (Common a size align) (Common b width step) once (binds, (j, here, at)) (besides, (k, there, to)) =
    ap (binding_of a) (one_choice fs name (CommonChoice size align) (CommonChoice width step) binds besides) ∙
    ap (λ (n : ℕ). Common n width step) (sym at ∙ ap (λ (i : ℕ). (common_at vs i).address) (once j k here there) ∙ to)

-- the name at a position is that of its first entry
name_here : (fs : List ObjectValue) (bs : List (List ℕ × Binding)) (ps : List Site) (k : ℕ) → map (λ e. e.0) bs ≡ map (name_at fs) ps →
    k < length bs →
    (k < length ps) × ((get_or bs k no_name).0 ≡ name_at fs (site_at ps k))
name_here fs bs ps k whole lt =
    let left = length-map bs (λ (e : List ℕ × Binding). e.0) in
    let right = length-map ps (name_at fs) in
    let long = ap (λ (ns : List (List ℕ)). length ns) whole in
    let within : k < length ps = omega arith in (
      within,
      sym (get_or-map (λ (e : List ℕ × Binding). e.0) bs k no_name [] lt) ∙ ap (λ (ns : List (List ℕ)). get_or ns k []) whole ∙
          get_or-map (name_at fs) ps k (site 0 0) [] within,
    )

-- and its binding is that of the name
bound_at : (fs : List ObjectValue) (vs : List CommonValue) (bs : List (List ℕ × Binding)) (ps : List Site) (k : ℕ) →
    Lists (first_entries fs) ps →
    map (λ e. e.0) bs ≡ map (name_at fs) ps → AreBindings fs vs bs → k < length bs →
    IsBinding fs vs (name_at fs (site_at ps k)) (get_or bs k no_name).1
bound_at fs vs bs ps k lists whole are lt =
    let (within, named) = name_here fs bs ps k whole lt in
    let name = name_at fs (site_at ps k) in
    let found = bound_first bs name k lt named (λ j below same. (
    let here = (name_here fs bs ps j whole (omega arith)).1 in
    names_once fs ps lists j k below within name (sym here ∙ same) refl)) in
    subst (λ (o : Option Binding). MatchOption o (Never (entries fs name)) (IsBinding fs vs name)) found (are name)

one_item : (b c : List ℕ × Binding) → b.0 ≡ c.0 → b.1 ≡ c.1 → b ≡ c
one_item b c name binding = ap (λ (n : List ℕ). (n, b.1)) name ∙ ap (λ (x : Binding). (c.0, x)) binding

one_names : (fs : List ObjectValue) (vs : List CommonValue) (bs ds : List (List ℕ × Binding)) (ps : List Site) →
    ((name : List ℕ) (j k : ℕ) → IsCommonNamed vs name j → IsCommonNamed vs name k → j ≡ k) → Lists (first_entries fs) ps →
    map (λ e. e.0) bs ≡ map (name_at fs) ps →
    map (λ e. e.0) ds ≡ map (name_at fs) ps → AreBindings fs vs bs → AreBindings fs vs ds → bs ≡ ds
one_names fs vs bs ds ps once lists whole entire one other =
    let left = length-map bs (λ (e : List ℕ × Binding). e.0) in
    let right = length-map ds (λ (e : List ℕ × Binding). e.0) in
    let long = ap (λ (ns : List (List ℕ)). length ns) (whole ∙ sym entire) in
    ext_get_or no_name bs ds (omega arith) (λ k lt. (
    let within : k < length ds = omega arith in
    one_item (get_or bs k no_name) (get_or ds k no_name) ((name_here fs bs ps k whole lt).1 ∙ sym (name_here fs ds ps k entire within).1)
    (one_binding fs vs (name_at fs (site_at ps k)) (get_or bs k no_name).1 (get_or ds k no_name).1 (once (name_at fs (site_at ps k)))
    (bound_at fs vs bs ps k lists whole one lt) (bound_at fs vs ds ps k lists entire other within))))

one_bindings : (fs : List ObjectValue) (vs : List CommonValue) (bs ds : List (List ℕ × Binding)) →
    ((name : List ℕ) (j k : ℕ) → IsCommonNamed vs name j → IsCommonNamed vs name k → j ≡ k) → AreNames fs bs → AreNames fs ds →
    AreBindings fs vs bs →
    AreBindings fs vs ds → bs ≡ ds
one_bindings fs vs bs ds once (ps, lists, whole) (qs, others, entire) one other =
    one_names fs vs bs ds ps once lists whole
    (entire ∙ ap (λ (rs : List Site). map (name_at fs) rs) (one_site_list (first_entries fs) qs ps others lists)) one other

-- ---- the entry symbol

same_some : (a b : ℕ) → ◌≡◌ {A = Option ℕ} (Some a) (Some b) → a ≡ b
same_some a b e = cc

one_value : (parts : List (ℕ × ℕ)) (base : ℕ) (target : Target) (x y : ℕ) → HasValue parts base target x → HasValue parts base target y →
    x ≡ y
one_value parts base target x y (places, least, is, below) (others, lowest, at, under) =
    same_some x y (sym is ∙ ap (λ (ps : List ℕ). target_value ps target) (same_least parts base places others least lowest) ∙ at)

-- ---- all of it

abbrev map_of : List (List (Option ℕ)) → List (List Bool) → List (List ℕ × Binding) → List OutputValue → List CommonValue → ℕ → ℕ → ℕ →
    LinkMapValue
map_of addresses discarded bindings outputs commons base page entry = record {
  addresses = addresses;
  discarded = discarded;
  bindings = bindings;
  outputs = outputs;
  commons = commons;
  base = base;
  page = page;
  entry = entry;
}

same_map : (m n : LinkMapValue) → m.addresses ≡ n.addresses → m.discarded ≡ n.discarded → m.bindings ≡ n.bindings → m.outputs ≡ n.outputs →
    m.commons ≡ n.commons → m.base ≡ n.base → m.page ≡ n.page → m.entry ≡ n.entry → m ≡ n
same_map m n addresses discarded bindings outputs commons base page entry =
    ap (λ (x : List (List (Option ℕ))). map_of x m.discarded m.bindings m.outputs m.commons m.base m.page m.entry) addresses ∙
    ap (λ (x : List (List Bool)). map_of n.addresses x m.bindings m.outputs m.commons m.base m.page m.entry) discarded ∙
    ap (λ (x : List (List ℕ × Binding)). map_of n.addresses n.discarded x m.outputs m.commons m.base m.page m.entry) bindings ∙
    ap (λ (x : List OutputValue). map_of n.addresses n.discarded n.bindings x m.commons m.base m.page m.entry) outputs ∙
    ap (λ (x : List CommonValue). map_of n.addresses n.discarded n.bindings n.outputs x m.base m.page m.entry) commons ∙
    ap (λ (x : ℕ). map_of n.addresses n.discarded n.bindings n.outputs n.commons x m.page m.entry) base ∙
    ap (λ (x : ℕ). map_of n.addresses n.discarded n.bindings n.outputs n.commons n.base x m.entry) page ∙
    ap (λ (x : ℕ). map_of n.addresses n.discarded n.bindings n.outputs n.commons n.base n.page x) entry

one_of_plan : (opt : Options) (fs : List ObjectValue) (l : LinkPlan) (m n : LinkMapValue) → IsLinkPlan opt fs l → IsMapOf opt fs l m →
    IsMapOf opt fs l n → m ≡ n
one_of_plan opt fs l m n is one other =
    let parts = link_parts fs opt l in
    let first = length (placed l.plan) in
    let commons = one_commons fs l.plan.commons l.places first m.commons n.commons one.commons other.commons in
    let once = λ (name : List ℕ) (j k : ℕ). one_named fs l.plan.commons l.places first m.commons name j k is.plan.commons one.commons in
    same_map m n
    (one_addresses fs (placed l.plan) l.places m.addresses n.addresses one.addresses other.addresses)
    (one_discarded fs m.discarded n.discarded one.discarded other.discarded)
    (one_bindings fs m.commons m.bindings n.bindings once one.names other.names one.bindings
    (subst (λ (vs : List CommonValue). AreBindings fs vs n.bindings) (sym commons) other.bindings))
    (one_output_list fs l.plan.outputs parts l.places m.outputs n.outputs one.outputs other.outputs)
    commons (one.base ∙ sym other.base) (one.page ∙ sym other.page)
    (one_value parts opt.base l.target m.entry n.entry one.entry other.entry)

pub one_link_map : (opt : Options) (fs : List ObjectValue) (m n : LinkMapValue) → IsLinkMap opt fs m → IsLinkMap opt fs n → m ≡ n
one_link_map opt fs m n (l, is, of) (k, are, other) =
    one_of_plan opt fs l m n is of (subst (λ (p : LinkPlan). IsMapOf opt fs p n) (one_link_plan opt fs k l are is) other)
