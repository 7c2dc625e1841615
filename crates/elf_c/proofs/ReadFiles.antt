-- What the library for C reads of a file and of its sections.
use Rattle.std.proofs.Common.{◌≡◌, ◌↔◌, Bool, None, Option, Some, ap, refl, subst, sym, ◌∙◌, ◌≢◌, ℕ, List, [], ◌∷◌, arith, inl, inr, ◌<◌}
use Rattle.std.proofs.Common.{◌+◌, ◌*◌, length, zero-add, ◌≤◌, ◌-◌, zero, suc, take, drop, true, false, cond, nat_lt}
use Rattle.std.proofs.lemmas.Bool.{OnTrue_from, cases_lt, cases_eq, ne_eqb}
use Rattle.std.specs.Bool.{OnTrue}
use Rattle.std.specs.Prelude.{IfSome, IsSome, IsTrue, SomeIff, slice_index}
use Rattle.std.proofs.lemmas.List.{get_or-map, drop-drop, drop-take, length-take, length-take-le, length-drop, take-take, take_all}
use Rattle.std.proofs.lemmas.List.FromFn.{get_or-map-range_with_len, length-map-range_with_len}
use Rattle.std.proofs.lemmas.Bool.Decides.{nat_tests}
use Rattle.elf_c.specs.Files.{HasEntry, IsFileOf, file_in, file_order, name_of_section, segments_listed}
use Rattle.elf_c.specs.Tables.{name_place, string_place, no_place}
use Rattle.elf_c.specs.declared.shapes.File.{File}
use Rattle.elf_field.specs.Abi.{PHDR_SIZE, SHDR_SIZE}
use Rattle.elf_field.specs.Headers.{phdr_at, shdr_at}
use Rattle.elf_field.specs.declared.phdr.Phdr.{Phdr}
use Rattle.elf_field.specs.declared.shdr.Shdr.{Shdr}
use Rattle.elf_image_outline.specs.Image.{no_section_header}
use Rattle.elf_image_rules.proofs.Public.{sections_read_at, sections_there, sound_file, table_some, name_table_below, records_kept}
use Rattle.elf_image_rules.specs.Rows.{FirstIn, Ruled}
use Rattle.elf_image_rules.specs.Rules.{header_rules, ident_rules, length_rules, IsFault, header_entry_rules, header_table_rules}
use Rattle.elf_image_rules.specs.Rules.{image_rules, record_rules, rules_in, section_name_rules, program_table_rules, section_header_rules}
use Rattle.elf_image_rules.specs.Rules.{section_table_rules, segment_rules, KeepsRecordRules}
use Rattle.elf_image_rules.specs.Tables.{file_counts, header, order_of, sections, segments, bytes_in, content_extent, name_table, names}
use Rattle.elf_image_rules.specs.Tables.{names_at, no_program_header, program_header_of}
use Rattle.elf_field.specs.Strings.{string}
use Rattle.elf_image_type.specs.ImageView.{IsFirstWithAddress, loaded}
use Rattle.elf_table_symbols.specs.Sections.{content, count, section, sections_in}

-- What is said of an answer that is there or isn't, and of the struct that it is put into.

-- None is right where what is asked for is not there
pub none_there : {T : Type 0} (P : Type 0) (r : Option T) → r ≡ None → (P → ⊥) → IsSome r ↔ P
none_there {T} P r none not_there =
    subst (λ (s : Option T). IsSome s ↔ P) (sym none) (λ wrong. cc, λ there. absurd (not_there there))

-- a value that is reported is known by another name, where it is there
pub some_same : {T V : Type 0} (seen : T → V) (x y : V) (r : Option T) → IfSome r (λ n. seen n ≡ x) → (IsSome r → x ≡ y) →
    IfSome r (λ n. seen n ≡ y)
some_same seen x y None none same = none
some_same seen x y (Some n) some same = some ∙ same refl

-- what is known of the value that was found is known of the struct that it was put into
pub put_reported : {T V : Type 0} (seen : T → V) (y : V) (r : Option T) (b : Bool) (new : T) →
    (IsTrue b ↔ IsSome r) → IfSome r (λ x. new ≡ x) →
    (IsTrue b → IfSome r (λ x. seen x ≡ y)) → OnTrue b (seen new ≡ y)
put_reported seen y None b new there put all = OnTrue_from b _ (λ yes. (let some = there.0 yes in absurd cc))
put_reported seen y (Some x) b new there put all = OnTrue_from b _ (λ yes. ap seen put ∙ all yes)

-- No rule has the number 0.

-- each rule of the list has another number
abbrev AreNumbered : List {1} (Ruled ℕ) → Type 0
AreNumbered [] = Unit {0}
AreNumbered (r ∷ rules) = (r.number ≢ 0) × AreNumbered rules

numbered : (rules : List {1} (Ruled ℕ)) (rule at : ℕ) → AreNumbered rules → FirstIn rules (Some (rule, at)) → rule ≢ 0
numbered [] rule at numbers found is_zero = absurd found
numbered (r ∷ rules) rule at numbers (inl here) is_zero = numbers.0 (sym here.0 ∙ is_zero)
numbered (r ∷ rules) rule at numbers (inr later) is_zero = numbered rules rule at numbers.1 later.1 is_zero

all_numbered : (b : List ℕ) → AreNumbered (rules_in b)
unfolding rules_in image_rules record_rules length_rules ident_rules header_rules header_table_rules section_table_rules program_table_rules
    header_entry_rules section_header_rules segment_rules section_name_rules
all_numbered b = search arith

pub fault_numbered : (b : List ℕ) (rule at : ℕ) → IsFault b (Some (rule, at)) → rule ≢ 0
fault_numbered b rule at found = numbered (rules_in b) rule at (all_numbered b) found

-- Section headers and program headers, found by the numbers of a file. A file that keeps rules 1 to 32 has its tables within its bytes, so
-- an index below the count is a record in the file, and none at or above the count is.

-- section header i lies in the file, and is the one at its offset
pub record IsSectionAt (f : File) (b : List ℕ) (i : ℕ) : Type 0 where
  pub there : HasEntry f.sections f.e_shoff SHDR_SIZE i (length b)
  pub read : shdr_at (file_order f) b (f.e_shoff + SHDR_SIZE * i) ≡ sections b (header b) i

section_in_file : (b : List ℕ) (i : ℕ) → KeepsRecordRules b → i < (file_counts b).sections → IsSectionAt (file_in b) b i
unfolding order_of
section_in_file b i kept below =
    let h = header b in
    let sound = sound_file b h refl kept in
    let inside = sections_there b h sound in
    let at = sections_read_at b h (table_some h (sections b h 0) (omega arith)) in
    record {
      there = (below, omega arith);
      read = sym (ap (λ (s : ℕ → Shdr). s i) at);
    }

pub section_at : (f : File) (b : List ℕ) (i : ℕ) → IsFileOf f b → i < (file_counts b).sections → IsSectionAt f b i
section_at f b i is below =
    subst (λ (g : File). IsSectionAt g b i) (sym is.numbers) (section_in_file b i is.kept below)

-- and there is no other
pub section_below : (f : File) (b : List ℕ) (i len : ℕ) → IsFileOf f b → HasEntry f.sections f.e_shoff SHDR_SIZE i len →
    i < (file_counts b).sections
section_below f b i len is (below, inside) = subst (λ (g : File). i < g.sections) is.numbers below

-- program header j lies in the file, and is the one at its offset
pub record IsSegmentAt (f : File) (b : List ℕ) (j : ℕ) : Type 0 where
  pub there : HasEntry f.segments f.e_phoff PHDR_SIZE j (length b)
  pub read : phdr_at (file_order f) b (f.e_phoff + PHDR_SIZE * j) ≡ segments b (header b) j

segment_in_file : (b : List ℕ) (j : ℕ) → KeepsRecordRules b → j < (file_counts b).segments → IsSegmentAt (file_in b) b j
unfolding order_of segments
segment_in_file b j kept below =
    let h = header b in
    let sound = sound_file b h refl kept in
    let inside = sound.program_table (omega arith) in
    record {
      there = (below, omega arith);
      read = refl;
    }

pub segment_at : (f : File) (b : List ℕ) (j : ℕ) → IsFileOf f b → j < (file_counts b).segments → IsSegmentAt f b j
segment_at f b j is below =
    subst (λ (g : File). IsSegmentAt g b j) (sym is.numbers) (segment_in_file b j is.kept below)

pub segment_below : (f : File) (b : List ℕ) (j len : ℕ) → IsFileOf f b → HasEntry f.segments f.e_phoff PHDR_SIZE j len →
    j < (file_counts b).segments
segment_below f b j len is (below, inside) = subst (λ (g : File). j < g.segments) is.numbers below

-- The list of sections that the rules of tables look at has one for each section header that the file counts, with the header of its index
-- and the bytes at its offsets. So reading by a file's numbers finds exactly these.

-- there are as many as are counted, each is the one of its index, and its content is what is at its offsets
pub count_listed : (b : List ℕ) → count (sections_in b) ≡ (file_counts b).sections
unfolding sections_in
count_listed b = length-map-range_with_len (sections b (header b)) 0 (file_counts b).sections

pub section_listed : (b : List ℕ) (i : ℕ) → i < (file_counts b).sections → section (sections_in b) i ≡ sections b (header b) i
unfolding sections_in
section_listed b i below =
    get_or-map-range_with_len (sections b (header b)) 0 (file_counts b).sections i i no_section_header below (zero-add i)

pub content_listed : (b : List ℕ) (i : ℕ) → i < count (sections_in b) →
    content (sections_in b) i ≡ bytes_in b (content_extent (section (sections_in b) i))
unfolding sections_in
content_listed b i below =
    get_or-map (λ (s : Shdr). bytes_in b (content_extent s)) (sections_in b).headers i no_section_header _ below

-- so what is read by a file's numbers is the section of the index, and it is found exactly where there is one
pub found_listed : (f : File) (b : List ℕ) (i : ℕ) (r : Option Shdr) → IsFileOf f b →
    SomeIff r (HasEntry f.sections f.e_shoff SHDR_SIZE i (length b)) (shdr_at (file_order f) b (f.e_shoff + SHDR_SIZE * i)) →
    SomeIff r (i < count (sections_in b)) (section (sections_in b) i)
found_listed f b i None is none =
    λ below. (let listed = subst (λ (n : ℕ). i < n) (count_listed b) below in none (section_at f b i is listed).there)
found_listed f b i (Some x) is (there, read) =
    let listed = section_below f b i (length b) is there in
    (subst (λ (n : ℕ). i < n) (sym (count_listed b)) listed, read ∙ (section_at f b i is listed).read ∙ sym (section_listed b i listed))

-- A string that is not empty is in the file at the table's start plus its offset (`string_in_file`). The table is a part of the file and
-- the string a part of the table, so the laws of `take` and `drop` apply. An empty table has the empty string alone.

-- the beginning of a list is that of its length
take_own_length : (m : ℕ) (xs : List ℕ) → take (length (take m xs)) xs ≡ take m xs
take_own_length m xs = elim (cases_lt (length xs) m) [
  | inl long ↦
      let all = take_all m xs (omega arith) in
      let own : length (take m xs) ≡ length xs = ap length all in
      ap (λ (n : ℕ). take n xs) own ∙ take_all (length xs) xs (omega arith) ∙ sym all
  | inr within ↦
      let own : length (take m xs) ≡ m = length-take-le m xs within in
      ap (λ (n : ℕ). take n xs) own
]

own_length_within : (m : ℕ) (xs : List ℕ) → length (take m xs) ≤ length xs
own_length_within m xs = let long = length-take m xs in omega arith

length-take-within : (m : ℕ) (xs : List ℕ) → length (take m xs) ≤ m
length-take-within m xs = let long = length-take m xs in omega arith

-- a string that is not empty is in the file after where its table begins
pub string_in_file : (b : List ℕ) (start len x : ℕ) → 0 < length (string (take len (drop start b)) x) →
    take (length (string (take len (drop start b)) x)) (drop (start + x) b) ≡ string (take len (drop start b)) x
string_in_file b start len x some =
    let rest = drop start b in
    let strings = take len rest in
    let found = string strings x in
    let n = length found in
    let own : take n (drop x strings) ≡ found = take_own_length _ (drop x strings) in
    let short : n ≤ length (drop x strings) = own_length_within _ (drop x strings) in
    let left : length (drop x strings) ≡ length strings - x = length-drop x strings in
    let most : length strings ≤ len = length-take-within len rest in
    let past : x + (len - x) ≡ len = omega arith in
    let cut : drop x strings ≡ take (len - x) (drop x rest) =
    ap (λ (k : ℕ). drop x (take k rest)) (sym past) ∙ drop-take x (len - x) rest in
    let prefix : take n (drop x strings) ≡ take n (drop x rest) =
    ap (take n) cut ∙ take-take n (len - x) (drop x rest) (omega arith) in
    ap (take n) (sym (drop-drop x start b)) ∙ sym prefix ∙ own

-- there is none in an empty table
pub empty_string : (x : ℕ) → string [] x ≡ []
empty_string zero = refl
empty_string (suc x) = refl

-- The name of a section, by the numbers of a file. In each of three cases the name and its place are the definition's: type NULL, no name
-- table, a string of the name table.

-- a section header of type NULL has no name
pub name_of_null : (b : List ℕ) (i : ℕ) (entry : Shdr) → entry ≡ sections b (header b) i → entry.sh_type ≡ 0 → [] ≡ name_of_section b i
name_of_null b i entry read null =
    let type : (sections b (header b) i).sh_type ≡ 0 = ap (λ (s : Shdr). s.sh_type) (sym read) ∙ null in
    rw type refl

-- any other one has a string of the section name string table
name_of_other : (b : List ℕ) (i : ℕ) → (sections b (header b) i).sh_type ≢ 0 →
    name_of_section b i ≡ string (names b (header b)) (sections b (header b) i).sh_name
name_of_other b i other = rw (ne_eqb (sections b (header b) i).sh_type 0 other) refl

-- which is empty where there is none
pub name_without_table : (f : File) (b : List ℕ) (i : ℕ) → IsFileOf f b → f.name_table ≡ 0 → [] ≡ name_of_section b i
unfolding names names_at
name_without_table f b i is none = elim (cases_eq (sections b (header b) i).sh_type 0) [
  | inl null ↦ name_of_null b i (sections b (header b) i) refl null
  | inr other ↦
      let index : name_table (header b) (sections b (header b) 0) ≡ 0 = sym (ap (λ (g : File). g.name_table) is.numbers) ∙ none in
      let empty : names b (header b) ≡ [] = rw index refl in
      sym (name_of_other b i other
      ∙ ap (λ (t : List ℕ). string t (sections b (header b) i).sh_name) empty
      ∙ empty_string (sections b (header b) i).sh_name)
]

-- and else the content of the section that its index names
pub name_in_table : (f : File) (b : List ℕ) (i : ℕ) (entry table : Shdr) → IsFileOf f b →
    entry ≡ sections b (header b) i → table ≡ sections b (header b) f.name_table → entry.sh_type ≢ 0 → f.name_table ≢ 0 →
    string (bytes_in b (content_extent table)) entry.sh_name ≡ name_of_section b i
unfolding names names_at
name_in_table f b i entry table is read table_read typed some =
    let h = header b in
    let k = name_table h (sections b h 0) in
    let index : f.name_table ≡ k = ap (λ (g : File). g.name_table) is.numbers in
    let there : k ≢ 0 = subst (λ (n : ℕ). n ≢ 0) index some in
    let other : (sections b h i).sh_type ≢ 0 = subst (λ (s : Shdr). s.sh_type ≢ 0) read typed in
    let strings : names b h ≡ bytes_in b (content_extent (sections b h k)) = rw (ne_eqb k 0 there) refl in
    let same : table ≡ sections b h k = table_read ∙ ap (sections b h) index in
    ap (λ (t : Shdr). string (bytes_in b (content_extent t)) entry.sh_name) same
    ∙ ap (λ (t : List ℕ). string t entry.sh_name) (sym strings)
    ∙ ap (λ (s : Shdr). string (names b h) s.sh_name) read
    ∙ sym (name_of_other b i other)

-- ---- where it is

pub place_of_null : (b : List ℕ) (i : ℕ) (entry : Shdr) → entry ≡ sections b (header b) i → entry.sh_type ≡ 0 → no_place ≡ name_place b i
place_of_null b i entry read null =
    let type : (sections b (header b) i).sh_type ≡ 0 = ap (λ (s : Shdr). s.sh_type) (sym read) ∙ null in
    rw type refl

pub place_without_table : (f : File) (b : List ℕ) (i : ℕ) → IsFileOf f b → f.name_table ≡ 0 → no_place ≡ name_place b i
place_without_table f b i is none = elim (cases_eq (sections b (header b) i).sh_type 0) [
  | inl null ↦ place_of_null b i (sections b (header b) i) refl null
  | inr other ↦
      let index : name_table (header b) (sections b (header b) 0) ≡ 0 = sym (ap (λ (g : File). g.name_table) is.numbers) ∙ none in
      rw (ne_eqb (sections b (header b) i).sh_type 0 other, index) refl
]

pub place_in_table : (f : File) (b : List ℕ) (i : ℕ) (entry table : Shdr) → IsFileOf f b →
    entry ≡ sections b (header b) i → table ≡ sections b (header b) f.name_table → entry.sh_type ≢ 0 → f.name_table ≢ 0 →
    string_place b (content_extent table) entry.sh_name ≡ name_place b i
place_in_table f b i entry table is read table_read typed some =
    let h = header b in
    let k = name_table h (sections b h 0) in
    let index : f.name_table ≡ k = ap (λ (g : File). g.name_table) is.numbers in
    let there : k ≢ 0 = subst (λ (n : ℕ). n ≢ 0) index some in
    let other : (sections b h i).sh_type ≢ 0 = subst (λ (s : Shdr). s.sh_type ≢ 0) read typed in
    let same : table ≡ sections b h k = table_read ∙ ap (sections b h) index in
    rw (ne_eqb (sections b h i).sh_type 0 other, ne_eqb k 0 there)
    (ap (λ (t : Shdr). string_place b (content_extent t) entry.sh_name) same
    ∙ ap (λ (s : Shdr). string_place b (content_extent (sections b h k)) s.sh_name) read)

-- there is a section of that index
pub table_below : (f : File) (b : List ℕ) → IsFileOf f b → f.name_table ≢ 0 → f.name_table < (file_counts b).sections
table_below f b is some =
    let h = header b in
    let index : f.name_table ≡ name_table h (sections b h 0) = ap (λ (g : File). g.name_table) is.numbers in
    elim (name_table_below _ h (sections b h) (sound_file b h refl is.kept)) [
      | inl none ↦ absurd (some (index ∙ none))
      | inr below ↦ subst (λ (n : ℕ). n < (file_counts b).sections) (sym index) below
    ]

-- The program headers of a file as a list, and the bytes that they give their addresses. Below `p_filesz` the byte is in the file, since
-- rule 25 keeps segments inside it; from there on it is 0.

pub listed_at : (b : List ℕ) (j : ℕ) → j < (file_counts b).segments → program_header_of (segments_listed b) j ≡ segments b (header b) j
listed_at b j below = get_or-map-range_with_len (segments b (header b)) 0 (file_counts b).segments j j no_program_header below (omega arith)

pub length-listed : (b : List ℕ) → length (segments_listed b) ≡ (file_counts b).segments
length-listed b = length-map-range_with_len (segments b (header b)) 0 (file_counts b).segments

-- what a segment gives an address: a byte of the file, or 0 after its bytes there
pub loaded_inside : (b : List ℕ) (s : Phdr) (x : ℕ) → x - s.p_vaddr < s.p_filesz →
    slice_index b (s.p_offset + (x - s.p_vaddr)) ≡ loaded b s x
loaded_inside b s x lt =
    let test : nat_lt (x - s.p_vaddr) s.p_filesz ≡ true = grind (arith, nat_tests) in
    ap (λ (t : Bool). cond t (slice_index b (s.p_offset + (x - s.p_vaddr))) 0) (sym test)

pub loaded_after : (b : List ℕ) (s : Phdr) (x : ℕ) → s.p_filesz ≤ x - s.p_vaddr → 0 ≡ loaded b s x
loaded_after b s x le =
    let test : nat_lt (x - s.p_vaddr) s.p_filesz ≡ false = grind (arith, nat_tests) in
    ap (λ (t : Bool). cond t (slice_index b (s.p_offset + (x - s.p_vaddr))) 0) (sym test)

-- such a byte lies in the file
pub inside_segment : (b : List ℕ) (j x : ℕ) (s : Phdr) → KeepsRecordRules b → IsFirstWithAddress (segments_listed b) x j →
    s ≡ program_header_of (segments_listed b) j → x - s.p_vaddr < s.p_filesz → s.p_offset + (x - s.p_vaddr) < length b
inside_segment b j x s kept (lt, has, none) same inside =
    let h = header b in
    let below : j < (file_counts b).segments = omega (arith, length-listed b) in
    let is : s ≡ segments b h j = same ∙ listed_at b j below in
    let each = records_kept (length b) h (sections b h) (segments b h) (names b h) kept in
    let load : (segments b h j).p_type ≡ 1 = subst (λ (p : Phdr). p.p_type ≡ 1) (listed_at b j below) has.0 in
    let within = each.segments.bytes j below (λ null. omega arith) in
    let own : 0 < s.p_filesz → s.p_offset + s.p_filesz ≤ length b =
    subst (λ (p : Phdr). 0 < p.p_filesz → p.p_offset + p.p_filesz ≤ length b) (sym is) within in
    omega arith
