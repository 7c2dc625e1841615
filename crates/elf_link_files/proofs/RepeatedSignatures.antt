-- A COMDAT group has the signature of an earlier one exactly if the first group of its signature is earlier in the list of all groups
-- (`repeated`). So marking the members of each such group marks the sections that are discarded (`marks_next`, `discarded_marks`).
use Rattle.std.proofs.Common.{◌≡◌, ◌<◌, ◌≤◌, ◌+◌, ◌∙◌, ◌⊎◌, ◌++◌, ◌∷◌, ◌↔◌, ℕ, List, [], Bool, true, false, arith, ap, get_or, inl, inr}
use Rattle.std.proofs.Common.{length, length-append, set, sym, subst, refl, get_or-set_other, get_or-set_same}
use Rattle.std.proofs.lemmas.Bool.{cases_eq, cases_lt, true≢false}
use Rattle.std.proofs.lemmas.List.{get_or-map, get_or_push, length-map, length-set}
use Rattle.std.proofs.Math.ListN.{get_or-append}
use Rattle.elf_link_files.specs.Discarded.{AreMarksOf, AreUnmarked, IsDiscardedBy, IsGroupMarked, comdat_groups, signatures_of}
use Rattle.elf_link_files.specs.Files.{AreDiscardMarks, AreMembersMarked, IsComdat, IsEarlier, IsGroupMember, IsSeen, mark, object_at}
use Rattle.elf_link_files.specs.Files.{section_in, signature}
use Rattle.elf_link_files.specs.Rows.{Before, Lists, site, site_at}
use Rattle.elf_link_files.specs.declared.site.Site.{Site}
use Rattle.elf_link_files.proofs.SiteLists.{earlier_before, position_before, site_is}
use Rattle.elf_object_strings.specs.StringTable.{AreEqualTo}
use Rattle.elf_object_type.specs.Object.{ObjectValue, members_of}

-- ---- which signatures are repeated

pub signature_at : (fs : List ObjectValue) (groups : List Site) (k : ℕ) → k < length groups →
    get_or (signatures_of fs groups) k [] ≡ signature fs (site_at groups k).file (site_at groups k).index
signature_at fs groups k lt = get_or-map (λ (p : Site). signature fs p.file p.index) groups k (site 0 0) [] lt

pub many_signatures : (fs : List ObjectValue) (groups : List Site) → length (signatures_of fs groups) ≡ length groups
many_signatures fs groups = length-map groups (λ (p : Site). signature fs p.file p.index)

-- of two sites of no entry, the earlier one comes before the other
earlier_of : (p q : Site) → p.entry ≡ 0 → q.entry ≡ 0 → Before p q → IsEarlier p.file p.index q.file q.index
earlier_of p q none other (inl file) = inl file
earlier_of p q none other (inr (same, inl index)) = inr (same, index)
earlier_of p q none other (inr (same, inr (alike, entry))) = absurd (omega arith)

-- the group in place k has the signature of an earlier one
abbrev IsRepeated : List ObjectValue → List Site → ℕ → Type 0
IsRepeated fs groups k =
    IsSeen fs (site_at groups k).file (site_at groups k).index (signature fs (site_at groups k).file (site_at groups k).index)

pub repeated : (fs : List ObjectValue) (groups : List Site) (firsts : List ℕ) (k : ℕ) → Lists (comdat_groups fs) groups →
    AreEqualTo (signatures_of fs groups) firsts → k < length groups → get_or firsts k 0 < k → IsRepeated fs groups k
repeated fs groups firsts k is equal lt below =
    let many = many_signatures fs groups in
    let first = get_or firsts k 0 in
    let (lt_first, same) = equal.each k (omega arith) in
    let one = is.each first (omega arith) in
    let other = is.each k lt in (
      (site_at groups first).file,
      (site_at groups first).index,
      earlier_of (site_at groups first) (site_at groups k) one.3 other.3 (is.order first k below lt),
      one.2,
      sym (signature_at fs groups first (omega arith)) ∙ same ∙ signature_at fs groups k lt,
    )

pub not_repeated : (fs : List ObjectValue) (groups : List Site) (firsts : List ℕ) (k : ℕ) → Lists (comdat_groups fs) groups →
    AreEqualTo (signatures_of fs groups) firsts → k < length groups → k ≤ get_or firsts k 0 → IsRepeated fs groups k → ⊥
not_repeated fs groups firsts k is equal lt least (e, h, earlier, comdat, same) =
    let many = many_signatures fs groups in
    let own = is.each k lt in
    let (j, lt_j, at) = is.all (site e h) (comdat.0, comdat.1, comdat, refl) in
    let before : Before (site_at groups j) (site_at groups k) =
    subst (λ p. Before p (site_at groups k)) (sym at)
    (subst (Before (site e h)) (sym (site_is (site_at groups k) (site_at groups k).file (site_at groups k).index refl refl own.3))
    (earlier_before (site e h) (site_at groups k).file (site_at groups k).index earlier)) in
    let j_below = position_before (comdat_groups fs) groups j k is lt_j lt before in
    let equals : get_or (signatures_of fs groups) k [] ≡ get_or (signatures_of fs groups) j [] =
    signature_at fs groups k lt ∙ sym same ∙ ap (λ (p : Site). signature fs p.file p.index) (sym at) ∙
    sym (signature_at fs groups j lt_j) in
    let lower = equal.least k j (omega arith) (omega arith) equals in
    omega arith

-- ---- the marks

-- none is discarded by none of the groups
pub marks_none : (fs : List ObjectValue) (groups : List Site) (marks : List (List Bool)) → AreUnmarked fs (length fs) marks →
    AreMarksOf fs groups 0 marks
marks_none fs groups marks are = record {
  files = are.count;
  long = are.long;
  right = λ f s file section.
      ((λ is. absurd (true≢false (sym is ∙ are.clear f s file section))), (λ by. let below = by.below in absurd (omega arith)));
}

discarded_more : (fs : List ObjectValue) (groups : List Site) (k f s : ℕ) → IsDiscardedBy fs groups k f s →
    IsDiscardedBy fs groups (k + 1) f s
discarded_more fs groups k f s by =
    let below = by.below in record { group = by.group; below = omega arith; file = by.file; member = by.member; seen = by.seen }

-- what is discarded by one group more is so by one of those before, or by that group
discarded_next : (fs : List ObjectValue) (groups : List Site) (k f s : ℕ) → IsDiscardedBy fs groups (k + 1) f s →
    IsDiscardedBy fs groups k f s ⊎
    (((site_at groups k).file ≡ f) × IsGroupMember fs f (site_at groups k).index s ×
    IsSeen fs f (site_at groups k).index (signature fs f (site_at groups k).index))
discarded_next fs groups k f s by = elim (cases_lt by.group k) [
  | inl below ↦ inl (record { group = by.group; below = below; file = by.file; member = by.member; seen = by.seen })
  | inr above ↦ (let within = by.below in let same : by.group ≡ k = omega arith in
      inr (subst (λ (j : ℕ). ((site_at groups j).file ≡ f) × IsGroupMember fs f (site_at groups j).index s ×
      IsSeen fs f (site_at groups j).index (signature fs f (site_at groups j).index))
      same (by.file, by.member, by.seen)))
]

-- a group whose signature is not repeated discards nothing
pub marks_past : (fs : List ObjectValue) (groups : List Site) (k : ℕ) (marks : List (List Bool)) → (IsRepeated fs groups k → ⊥) →
    AreMarksOf fs groups k marks → AreMarksOf fs groups (k + 1) marks
marks_past fs groups k marks never are = record {
  files = are.files;
  long = are.long;
  right = λ f s file section. (
    (λ is. discarded_more fs groups k f s ((are.right f s file section).0 is)),
    (λ by. elim (discarded_next fs groups k f s by) [
      | inl before ↦ (are.right f s file section).1 before
      | inr (at, member, seen) ↦
          absurd (never (subst (λ n. IsSeen fs n (site_at groups k).index (signature fs n (site_at groups k).index)) (sym at) seen))
    ]),
  );
}

-- a group whose signature is repeated discards its members, which are marked now
marks_by_row : (fs : List ObjectValue) (groups : List Site) (k : ℕ) (marks : List (List Bool)) (row : List Bool) → IsRepeated fs groups k →
    (site_at groups k).file < length fs →
    AreMembersMarked (get_or marks (site_at groups k).file [])
    (members_of (section_in fs (site_at groups k).file (site_at groups k).index).body)
    (length (members_of (section_in fs (site_at groups k).file (site_at groups k).index).body)) row →
    AreMarksOf fs groups k marks → AreMarksOf fs groups (k + 1) (set marks (site_at groups k).file row)
marks_by_row fs groups k marks row again there marked are = record {
  files = length-set marks own row ∙ are.files;
  long = λ f file. elim (cases_eq f own) [
    | inl same ↦ (ap length (row_at f same) ∙ marked.long ∙ are.long own there ∙ ap (λ n. length (object_at fs n).sections) (sym same))
    | inr other ↦ (ap length (get_or-set_other marks own f row [] other) ∙ are.long f file)
  ];
  right = λ f s file section. elim (cases_eq f own) [
    | inl same ↦ (of_group f s same file section)
    | inr other ↦ (of_other f s other file section)
  ];
} where
  own : ℕ
  own = (site_at groups k).file

  within : own < length marks
  within = let many = are.files in let lt = there in omega arith

  row_at : (f : ℕ) → f ≡ own → get_or (set marks own row) f [] ≡ row
  row_at f same = ap (λ n. get_or (set marks own row) n []) same ∙ get_or-set_same marks own row [] within

  of_other : (f s : ℕ) → (f ≡ own → ⊥) → f < length fs → s < length (object_at fs f).sections →
      (mark (set marks own row) f s ≡ true) ↔ IsDiscardedBy fs groups (k + 1) f s
  of_other f s other file section =
      let is : mark (set marks own row) f s ≡ mark marks f s = ap (λ r. get_or r s false) (get_or-set_other marks own f row [] other) in (
        (λ marked. discarded_more fs groups k f s ((are.right f s file section).0 (sym is ∙ marked))),
        (λ by. elim (discarded_next fs groups k f s by) [
          | inl before ↦ is ∙ (are.right f s file section).1 before
          | inr (at, member, seen) ↦ absurd (other (sym at))
        ]),
      )

  of_group : (f s : ℕ) → f ≡ own → f < length fs → s < length (object_at fs f).sections →
      (mark (set marks own row) f s ≡ true) ↔ IsDiscardedBy fs groups (k + 1) f s
  of_group f s same file section =
      let is : mark (set marks own row) f s ≡ get_or row s false = ap (λ r. get_or r s false) (row_at f same) in
      let long : length (get_or marks own []) ≡ length (object_at fs f).sections =
      are.long own there ∙ ap (λ n. length (object_at fs n).sections) (sym same) in
      let old : (mark marks own s ≡ true) ↔ IsDiscardedBy fs groups k own s =
      are.right own s there (subst (λ n. s < length (object_at fs n).sections) same section) in
      let by_row = marked.right s (omega arith) in (
        (λ now. elim (by_row.0 (sym is ∙ now)) [
          | inl had ↦ subst (λ n. IsDiscardedBy fs groups (k + 1) n s) (sym same) (discarded_more fs groups k own s (old.0 had))
          | inr named ↦ record {
            group = k;
            below = omega arith;
            file = sym same;
            member = subst (λ n. IsGroupMember fs n (site_at groups k).index s) (sym same) named;
            seen = subst (λ n. IsSeen fs n (site_at groups k).index (signature fs n (site_at groups k).index)) (sym same) again;
          }
        ]),
        (λ by. elim (discarded_next fs groups k f s by) [
          | inl before ↦ is ∙ by_row.1 (inl (old.1 (subst (λ n. IsDiscardedBy fs groups k n s) same before)))
          | inr (at, member, seen) ↦ is ∙ by_row.1 (inr (subst (λ n. IsGroupMember fs n (site_at groups k).index s) same member))
        ]),
      )

pub marks_next : (fs : List ObjectValue) (groups : List Site) (k : ℕ) (marks new : List (List Bool)) → IsRepeated fs groups k →
    (site_at groups k).file < length fs → IsGroupMarked fs (site_at groups k) marks new → AreMarksOf fs groups k marks →
    AreMarksOf fs groups (k + 1) new
marks_next fs groups k marks new again there (row, is, marked) are =
    subst (AreMarksOf fs groups (k + 1)) (sym is) (marks_by_row fs groups k marks row again there marked are)

-- those of all groups
pub discarded_marks : (fs : List ObjectValue) (groups : List Site) (marks : List (List Bool)) → Lists (comdat_groups fs) groups →
    AreMarksOf fs groups (length groups) marks → AreDiscardMarks fs marks
discarded_marks fs groups marks is are = record {
  files = are.files;
  long = are.long;
  right = λ f s file section. (
    (λ marked. let by = (are.right f s file section).0 marked in
        let own = is.each by.group by.below in
        ((site_at groups by.group).index, subst (λ n. IsComdat fs n (site_at groups by.group).index) by.file own.2, by.member, by.seen)),
    (λ (g, comdat, member, seen). (are.right f s file section).1 (
        let (j, lt, at) = is.all (site f g) (comdat.0, comdat.1, comdat, refl) in
        let index : g ≡ (site_at groups j).index = ap (λ (p : Site). p.index) (sym at) in
        record {
          group = j;
          below = lt;
          file = ap (λ (p : Site). p.file) at;
          member = subst (λ n. IsGroupMember fs f n s) index member;
          seen = subst (λ n. IsSeen fs f n (signature fs f n)) index seen;
        })),
  );
}

-- one row of no marks more
pub unmarked_more : (fs : List ObjectValue) (n : ℕ) (marks : List (List Bool)) (row : List Bool) →
    length row ≡ length (object_at fs n).sections →
    ((s : ℕ) → get_or row s false ≡ false) → AreUnmarked fs n marks → AreUnmarked fs (n + 1) (marks ++ row ∷ [])
unmarked_more fs n marks row long clear are = record {
  count = (let count = are.count in simp length-append (omega arith));
  long = λ f lt. elim (cases_lt f n) [
    | inl below ↦ (let count = are.count in ap length (get_or-append marks (row ∷ []) [] f (omega arith)) ∙ are.long f below)
    | inr above ↦
        (let same : f ≡ n = omega arith in
        ap length (get_or_push marks row [] f (are.count ∙ sym same)) ∙ long ∙ ap (λ m. length (object_at fs m).sections) (sym same))
  ];
  clear = λ f s lt section. elim (cases_lt f n) [
    | inl below ↦
        (let count = are.count in
        ap (λ r. get_or r s false) (get_or-append marks (row ∷ []) [] f (omega arith)) ∙ are.clear f s below section)
    | inr above ↦
        (let same : f ≡ n = omega arith in ap (λ r. get_or r s false) (get_or_push marks row [] f (are.count ∙ sym same)) ∙ clear s)
  ];
}
