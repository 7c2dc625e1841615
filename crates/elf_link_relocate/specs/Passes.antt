-- What the passes over the entries and the fields of a link look at, collect and return.
use Rattle.std.specs.Prelude.{List, ◌≡◌, ℕ, ◌<◌, pos, get_or, length, Some, ℤ, ◌↔◌, Bool, true, false, if◌then◌else◌, nat_lt, MatchOption}
use Rattle.std.specs.Prelude.{Option, None, [], map, ◌+◌, ◌≤◌, ◌⊎◌, slice_index, option_map, IfSome, ◌++◌, ◌∷◌, All, Contains}
use Rattle.std.specs.Global.{Vec}
use Rattle.std.specs.List.Sorted.{IsSorted}
use Rattle.std.specs.Ordering.{nat_cmp, ordering_then}
use Rattle.std.specs.declared.cmp.Ordering.{Ordering}
use Rattle.elf_extent.specs.Extent.{Never}
use Rattle.elf_extent.specs.declared.extent.Extent.{Extent}
use Rattle.elf_field.specs.declared.number.Order.{Order}
use Rattle.elf_image_rules.specs.Rows.{Row}
use Rattle.elf_link_field.specs.Field.{IsPatched, size_of, patched}
use Rattle.elf_link_field.specs.declared.rule.Form.TheVariants.{Abs}
use Rattle.elf_link_field.specs.declared.rule.Range.TheVariants.{Signed}
use Rattle.elf_link_field.specs.declared.rule.RelocRule.{RelocRule}
use Rattle.elf_link_field.specs.declared.rule.Width.TheVariants.{W1}
use Rattle.elf_link_files.specs.Files.{object_at}
use Rattle.elf_link_files.specs.Rows.{Before, IsFirstAt, AreEach}
use Rattle.elf_link_files.specs.declared.fault.LinkFault.TheVariants.{Rule, OutOfMemory}
use Rattle.elf_link_files.specs.declared.fault.LinkFault.{LinkFault}
use Rattle.elf_link_files.specs.declared.site.Site.{Site}
use Rattle.elf_link_map.specs.LinkMap.{LinkMapValue}
use Rattle.elf_link_relocate.specs.Fields.{HasField, no_rule, IsFieldOutOfRange, IsUnplaced, IsValueOutOfRange, target_at, IsWithin}
use Rattle.elf_link_relocate.specs.Fields.{field_start, number_at, HasOffset, Share, content_in, fields_overlap, field_out_of_range}
use Rattle.elf_link_relocate.specs.Fields.{unplaced, value_out_of_range}
use Rattle.elf_link_relocate.specs.Linked.{IsGrid, item, with, HasLiveBits, number_byte}
use Rattle.elf_link_relocate.specs.declared.field.Field.{Field}
use Rattle.elf_link_relocate.specs.declared.field.FieldTest.TheVariants.{FieldOutOfRange, Unplaced, ValueOutOfRange}
use Rattle.elf_link_relocate.specs.declared.field.FieldTest.{FieldTest}
use Rattle.elf_link_relocate.specs.declared.field.Found.{Found}
use Rattle.elf_link_relocate.specs.declared.field.Validated.{Validated}
use Rattle.elf_link_relocate.specs.declared.overlaps.Spot.{Spot}
use Rattle.elf_link_relocate.specs.declared.field.Seen.{Seen}
use Rattle.elf_object_type.specs.Object.{ObjectValue}

-- What contracts see of a link while its fields are looked at: its objects, their map, and the relocation rules.

pub record LinkingValue : Type 0 where
  pub objects : List ObjectValue
  pub map : LinkMapValue
  pub rules : List RelocRule

-- and of a field of it
pub record FieldOfValue : Type 0 where
  pub objects : List ObjectValue
  pub map : LinkMapValue
  pub rules : List RelocRule
  pub field : Field

-- and of a list of fields of it
pub record FieldListValue : Type 0 where
  pub objects : List ObjectValue
  pub map : LinkMapValue
  pub rules : List RelocRule
  pub fields : List Field

-- The fields before a site: what the code has listed on its way through the entries.

abbrev pub entry_site : ℕ → ℕ → ℕ → Site
entry_site f s e = record { file = f; index = s; entry = e }

-- the one used for a field that isn't there
abbrev pub no_field : Field
no_field = record {
  site = entry_site 0 0 0;
  rule = record { kind = 0; form = Abs; width = W1; range = Signed };
  target = 0;
  offset = 0;
  number = pos 0;
}

abbrev pub field_at : List Field → ℕ → Field
field_at ds k = get_or ds k no_field

-- the list has each field before the site, by the relocation rule of its kind, and in order; and each entry before it has one
pub record AreFieldsBefore (fs : List ObjectValue) (rules : List RelocRule) (stop : Site) (ds : List Field) : Type 0 where
  pub each : (k : ℕ) → k < length ds → HasField fs rules (field_at ds k).site (field_at ds k).rule
  pub before : (k : ℕ) → k < length ds → Before (field_at ds k).site stop
  pub all : (p : Site) (r : RelocRule) → HasField fs rules p r → Before p stop → (k : ℕ) × (k < length ds) × ((field_at ds k).site ≡ p)
  pub order : (j k : ℕ) → j < k → k < length ds → Before (field_at ds j).site (field_at ds k).site
  pub ruled : (p : Site) → no_rule fs rules p → Before p stop → ⊥

-- the list has each field, and in order
pub record AreFields (fs : List ObjectValue) (rules : List RelocRule) (ds : List Field) : Type 0 where
  pub each : (k : ℕ) → k < length ds → HasField fs rules (field_at ds k).site (field_at ds k).rule
  pub all : (p : Site) (r : RelocRule) → HasField fs rules p r → (k : ℕ) × (k < length ds) × ((field_at ds k).site ≡ p)
  pub order : (j k : ℕ) → j < k → k < length ds → Before (field_at ds j).site (field_at ds k).site

-- What the passes over all entries and all fields return.

-- rule 12 is broken nowhere; or it is the fault, at its first site
abbrev pub NoneUnruled : List ObjectValue → List RelocRule → Type 0
NoneUnruled fs rules = Never (no_rule fs rules)

abbrev pub IsRuleFault : List ObjectValue → List RelocRule → LinkFault → Type 0
IsRuleFault fs rules (Rule number file index entry) = (number ≡ 12) × IsFirstAt (no_rule fs rules) (entry_site file index entry)
IsRuleFault fs rules OutOfMemory = Unit {0}

-- what breaks each rule of one field: rules 13, 14 and 16
abbrev pub BreaksFieldTest : List ObjectValue → LinkMapValue → FieldTest → Site → RelocRule → Type 0
BreaksFieldTest fs m Unplaced = IsUnplaced fs m
BreaksFieldTest fs m FieldOutOfRange = IsFieldOutOfRange fs
BreaksFieldTest fs m ValueOutOfRange = IsValueOutOfRange fs m

-- the field at position k of the list
abbrev pub Holds : (Site → RelocRule → Type 0) → List Field → ℕ → Type 0
Holds P ds k = P (field_at ds k).site (field_at ds k).rule

-- none of the list, or the one at position k, and none before it
abbrev pub HasNone : (Site → RelocRule → Type 0) → List Field → Type 0
HasNone P ds = (k : ℕ) → k < length ds → Holds P ds k → ⊥

abbrev pub IsFirst : (Site → RelocRule → Type 0) → List Field → ℕ → Type 0
IsFirst P ds k = (k < length ds) × Holds P ds k × ((j : ℕ) → j < k → Holds P ds j → ⊥)

-- the number of the rule that a test is
abbrev pub test_number : FieldTest → ℕ
test_number Unplaced = 13
test_number FieldOutOfRange = 14
test_number ValueOutOfRange = 16

-- What is known of a link while its fields are looked at.

-- the section that a field carries, and the offset there, are those of its entry
pub record IsInTarget (fs : List ObjectValue) (d : Field) : Type 0 where
  pub target : d.target ≡ target_at fs d.site
  pub offset : d.offset ≡ field_start fs d.site

-- and the number is its number, where it has one and ends within its target
pub record IsRead (fs : List ObjectValue) (m : LinkMapValue) (d : Field) : Type 0 where
  pub place : IsInTarget fs d
  pub number : IsWithin fs d.site d.rule → (z : ℤ) → number_at fs m d.site d.rule ≡ Some z → z ≡ d.number

abbrev pub AreFieldsRead : List ObjectValue → LinkMapValue → List Field → Type 0
AreFieldsRead fs m ds = (k : ℕ) → k < length ds → IsRead fs m (field_at ds k)

-- A field with the rules that it breaks.

-- the field of the entry at a site, and which rules it breaks
pub record IsValidatedField (fs : List ObjectValue) (m : LinkMapValue) (rules : List RelocRule) (p : Site) (j : Validated) : Type 0 where
  pub site : j.field.site ≡ p
  pub has : HasField fs rules j.field.site j.field.rule
  pub read : IsRead fs m j.field
  pub unplaced : (j.unplaced ≡ true) ↔ BreaksFieldTest fs m Unplaced j.field.site j.field.rule
  pub out_of_range : (j.out_of_range ≡ true) ↔ BreaksFieldTest fs m FieldOutOfRange j.field.site j.field.rule
  pub refused : (j.refused ≡ true) ↔ BreaksFieldTest fs m ValueOutOfRange j.field.site j.field.rule

-- What is seen of the fields of a list, one after the other.

-- the first site where something holds, of one found before and the next one
abbrev pub first_of : Option Site → Bool → Site → Option Site
first_of (Some first) holds p = Some first
first_of None true p = Some p
first_of None false p = None

-- the site of the first field of the list that something holds of, or none; here, that breaks a rule
abbrev pub IsFirstOf : (Site → RelocRule → Type 0) → List Field → Option Site → Type 0
IsFirstOf P ds first = MatchOption first (HasNone P ds) (λ p. (k : ℕ) × IsFirst P ds k × ((field_at ds k).site ≡ p))

abbrev pub IsFirstBroken : List ObjectValue → LinkMapValue → List Field → FieldTest → Option Site → Type 0
IsFirstBroken fs m ds test = IsFirstOf (BreaksFieldTest fs m test) ds

-- the last field of the list, or none
abbrev pub IsLast : List Field → Option Field → Type 0
IsLast ds last = MatchOption last (length ds ≡ 0) (λ d. (k : ℕ) × (length ds ≡ k + 1) × (field_at ds k ≡ d))

-- a field is after another one: in a later file, in a later section of its file, or after its end in its section
abbrev pub StandsAfter : Field → Field → Type 0
StandsAfter d e =
    (d.site.file < e.site.file) ⊎
    ((d.site.file ≡ e.site.file) × ((d.target < e.target) ⊎ ((d.target ≡ e.target) × (d.offset + size_of d.rule.width ≤ e.offset))))

-- each field but the first one is after the one before it
abbrev pub AreAscending : List Field → Type 0
AreAscending ds = (k : ℕ) → k + 1 < length ds → StandsAfter (field_at ds k) (field_at ds (k + 1))

-- of no field
abbrev pub none_seen : Seen
none_seen = record { unplaced = None; out_of_range = None; refused = None; last = None; ascending = true }

-- of the fields of a list
pub record IsSeenOf (fs : List ObjectValue) (m : LinkMapValue) (ds : List Field) (seen : Seen) : Type 0 where
  pub unplaced : IsFirstBroken fs m ds Unplaced seen.unplaced
  pub out_of_range : IsFirstBroken fs m ds FieldOutOfRange seen.out_of_range
  pub refused : IsFirstBroken fs m ds ValueOutOfRange seen.refused
  pub last : IsLast ds seen.last
  pub ascending : (seen.ascending ≡ true) ↔ AreAscending ds

-- of one field more
pub record IsSeenNext (old : Seen) (j : Validated) (new : Seen) : Type 0 where
  pub unplaced : new.unplaced ≡ first_of old.unplaced j.unplaced j.field.site
  pub out_of_range : new.out_of_range ≡ first_of old.out_of_range j.out_of_range j.field.site
  pub refused : new.refused ≡ first_of old.refused j.refused j.field.site
  pub last : new.last ≡ Some j.field
  pub ascending : (new.ascending ≡ true) ↔ ((old.ascending ≡ true) × IfSome old.last (λ d. StandsAfter d j.field))

-- Which bytes the first fields of a list have.

-- a field is in section s of file f
abbrev pub IsFieldIn : List ObjectValue → Field → ℕ → ℕ → Type 0
IsFieldIn fs d f s = (d.site.file ≡ f) × (target_at fs d.site ≡ s)

-- one of the first n fields has the byte at offset x of it
abbrev pub IsCovered : List ObjectValue → List Field → ℕ → ℕ → ℕ → ℕ → Type 0
IsCovered fs ds n f s x = (j : ℕ) × (j < n) × IsFieldIn fs (field_at ds j) f s × HasOffset fs (field_at ds j).site (field_at ds j).rule x

-- Which fields of a list share a byte.

-- field k shares a byte with one before it
abbrev pub SharesBefore : List ObjectValue → List Field → ℕ → Type 0
SharesBefore fs ds k = (j : ℕ) × (j < k) × Share fs (field_at ds j).site (field_at ds j).rule (field_at ds k).site (field_at ds k).rule

abbrev pub HasNoOverlap : List ObjectValue → List Field → Type 0
HasNoOverlap fs ds = (k : ℕ) → k < length ds → SharesBefore fs ds k → ⊥

abbrev pub IsFirstOverlappingField : List ObjectValue → List Field → ℕ → Type 0
IsFirstOverlappingField fs ds k = (k < length ds) × SharesBefore fs ds k × ((j : ℕ) → j < k → SharesBefore fs ds j → ⊥)

-- each field ends within its target
abbrev pub AllWithin : List ObjectValue → List Field → Type 0
AllWithin fs ds = (k : ℕ) → k < length ds → IsWithin fs (field_at ds k).site (field_at ds k).rule

-- The search for them: the sections and starts of the fields, as these carry them.

-- a field has the byte at offset x of its section; two have one of their section
abbrev pub HasByte : Field → ℕ → Type 0
HasByte d x = (d.offset ≤ x) × (x < d.offset + size_of d.rule.width)

abbrev pub AreSharing : Field → Field → Type 0
AreSharing d e = (d.site.file ≡ e.site.file) × (d.target ≡ e.target) × ((x : ℕ) × HasByte d x × HasByte e x)

-- two of the first n fields share a byte; field k is the first one that shares a byte with one before it
abbrev pub HasShared : List Field → ℕ → Type 0
HasShared ds n = (j k : ℕ) × (j < k) × (k < n) × AreSharing (field_at ds j) (field_at ds k)

abbrev pub IsFirstSharer : List Field → ℕ → Type 0
IsFirstSharer ds k = (k < length ds) × HasShared ds (k + 1) × (HasShared ds k → ⊥)

-- the one used for a spot that isn't there
abbrev pub no_spot : Spot
no_spot = record { file = 0; target = 0; offset = 0; position = 0 }

abbrev pub spot_at : List Spot → ℕ → Spot
spot_at spots a = get_or spots a no_spot

-- a spot is that of one of the first n fields
pub record IsSpotIn (ds : List Field) (n : ℕ) (s : Spot) : Type 0 where
  pub within : s.position < n
  pub file : s.file ≡ (field_at ds s.position).site.file
  pub target : s.target ≡ (field_at ds s.position).target
  pub offset : s.offset ≡ (field_at ds s.position).offset

-- no two spots have one position
abbrev pub ArePlacedOnce : List Spot → Type 0
ArePlacedOnce spots = (a b : ℕ) → a < length spots → b < length spots → (spot_at spots a).position ≡ (spot_at spots b).position → a ≡ b

-- the spots are those of the first n fields, each once
pub record AreSpots (ds : List Field) (n : ℕ) (spots : List Spot) : Type 0 where
  pub each : All (IsSpotIn ds n) spots
  pub all : (k : ℕ) → k < n → (s : Spot) × Contains spots s × (s.position ≡ k)
  pub once : ArePlacedOnce spots

-- files first, then sections, then starts, then positions
abbrev pub spot_cmp : Spot → Spot → Ordering
spot_cmp s t =
    ordering_then (nat_cmp s.file t.file)
    (ordering_then (nat_cmp s.target t.target) (ordering_then (nat_cmp s.offset t.offset) (nat_cmp s.position t.position)))

abbrev pub AreSorted : List Spot → Type 0
AreSorted = IsSorted spot_cmp

-- two spots are in one section
abbrev pub AreTogether : Spot → Spot → Type 0
AreTogether s t = (s.file ≡ t.file) × (s.target ≡ t.target)

-- spot i is the last one of its section, or the next one is in it too
abbrev pub IsLastOfTarget : List Spot → ℕ → Type 0
IsLastOfTarget spots i = i + 1 < length spots → AreTogether (spot_at spots i) (spot_at spots (i + 1)) → ⊥

abbrev pub IsFollowed : List Spot → ℕ → Type 0
IsFollowed spots i = (i + 1 < length spots) × AreTogether (spot_at spots i) (spot_at spots (i + 1))

-- the bytes of a field that is one of the first n; no byte of another one
abbrev pub field_extent : List Field → ℕ → Spot → Extent
field_extent ds n s = record { start = s.offset; len = if nat_lt s.position n then size_of (field_at ds s.position).rule.width else 0 }

-- The fields of a link that breaks none of rules 12 to 15.

-- each has a value, ends within its target, and shares no byte with another
pub record AreKept (fs : List ObjectValue) (m : LinkMapValue) (ds : List Field) : Type 0 where
  pub placed : HasNone (IsUnplaced fs m) ds
  pub within : AllWithin fs ds
  pub apart : HasNoOverlap fs ds

-- they are all fields of the link
pub record AreValidated (fs : List ObjectValue) (m : LinkMapValue) (rules : List RelocRule) (ds : List Field) : Type 0 where
  pub fields : AreFields fs rules ds
  pub kept : AreKept fs m ds

-- rule 15 is the fault, at its first site
abbrev pub IsOverlapFault : List ObjectValue → List RelocRule → LinkFault → Type 0
IsOverlapFault fs rules (Rule number file index entry) = (number ≡ 15) × IsFirstAt (fields_overlap fs rules) (entry_site file index entry)
IsOverlapFault fs rules OutOfMemory = Unit {0}

-- Copies of the live sections with bits, with numbers in their fields.

-- a grid of copies, as contracts see it
abbrev pub copy_view : Option (Vec ℕ) → Option (List ℕ)
copy_view = option_map (λ copy. copy.items)

abbrev pub copies_view : List (Vec (Option (Vec ℕ))) → List (List (Option (List ℕ)))
copies_view rows = map (λ row. map copy_view row.items) rows

-- the first n fields hold their numbers in section s of file f, and its other bytes are those of the input
pub record IsRelocated (fs : List ObjectValue) (m : LinkMapValue) (ds : List Field) (n f s : ℕ) (after : List ℕ) : Type 0 where
  pub long : length after ≡ length (content_in fs f s)
  pub inside : (j : ℕ) → j < n → IsFieldIn fs (field_at ds j) f s → (z : ℤ) →
      number_at fs m (field_at ds j).site (field_at ds j).rule ≡ Some z →
      (k : ℕ) → k < size_of (field_at ds j).rule.width →
      slice_index after (field_start fs (field_at ds j).site + k) ≡ number_byte fs (field_at ds j).site (field_at ds j).rule z k
  pub outside : (x : ℕ) → (IsCovered fs ds n f s x → ⊥) → slice_index after x ≡ slice_index (content_in fs f s) x

-- each live section with bits has a copy, relocated so far, and no other section has one
pub record AreRelocated (fs : List ObjectValue) (m : LinkMapValue) (ds : List Field) (n : ℕ)
    (rows : List (List (Option (List ℕ)))) : Type 0 where
  pub grid : IsGrid fs rows
  pub each : (f s : ℕ) → HasLiveBits fs f s → (after : List ℕ) × (item None rows f s ≡ Some after) × IsRelocated fs m ds n f s after
  pub others : (f s : ℕ) (after : List ℕ) → item None rows f s ≡ Some after → HasLiveBits fs f s

-- the copy of a section: its bytes, where it is live and has bits
abbrev pub IsCopy : List ObjectValue → ℕ → ℕ → Option (List ℕ) → Type 0
IsCopy fs f s copy = MatchOption copy (¬ HasLiveBits fs f s) (λ bytes. HasLiveBits fs f s × (bytes ≡ content_in fs f s))

-- the copies of the first n sections of a file; and those of the first n files
abbrev pub AreCopies : List ObjectValue → ℕ → ℕ → List (Option (List ℕ)) → Type 0
AreCopies fs f = AreEach None (IsCopy fs f)

abbrev pub AreAllCopies : List ObjectValue → ℕ → List (List (Option (List ℕ))) → Type 0
AreAllCopies fs = AreEach [] (λ f. AreCopies fs f (length (object_at fs f).sections))

-- a section has a copy, and a field of n bytes at offset x is in it
abbrev pub HasRoom : List (List (Option (List ℕ))) → ℕ → ℕ → ℕ → ℕ → Type 0
HasRoom rows f s x n = (copy : List ℕ) × (item None rows f s ≡ Some copy) × (x + n ≤ length copy)

-- the copy of section s of file f holds the number in the field of n bytes at offset x now
abbrev pub IsPatchedIn : Order → List (List (Option (List ℕ))) → ℕ → ℕ → ℕ → ℕ → ℤ → List (List (Option (List ℕ))) → Type 0
IsPatchedIn o old f s x n z new =
    (copy : List ℕ) × (item None old f s ≡ Some copy) × (new ≡ with old f s (Some (patched o copy x n z)))

-- each live section with bits has a copy that is as long
pub record HaveCopies (fs : List ObjectValue) (rows : List (List (Option (List ℕ)))) : Type 0 where
  pub grid : IsGrid fs rows
  pub each : (f s : ℕ) → HasLiveBits fs f s →
      (copy : List ℕ) × (item None rows f s ≡ Some copy) × (length copy ≡ length (content_in fs f s))

-- the copy of a field's section holds the field's number in it now
pub record IsFieldPatched (fs : List ObjectValue) (d : Field) (old new : List (List (Option (List ℕ)))) : Type 0 where
  pub copy : List ℕ
  pub after : List ℕ
  pub live : HasLiveBits fs d.site.file (target_at fs d.site)
  pub at : item None old d.site.file (target_at fs d.site) ≡ Some copy
  pub patched : IsPatched (object_at fs d.site.file).order copy (field_start fs d.site) (size_of d.rule.width) d.number after
  pub new_is : new ≡ with old d.site.file (target_at fs d.site) (Some after)

-- or the field breaks rule 13 or 14, and the copies are as before
abbrev pub IsPatchedOrBroken : List ObjectValue → Validated → List (List (Option (List ℕ))) → List (List (Option (List ℕ))) → Type 0
IsPatchedOrBroken fs j old new = IsFieldPatched fs j.field old new ⊎ (((j.unplaced ≡ true) ⊎ (j.out_of_range ≡ true)) × (new ≡ old))

-- What a pass over the entries finds, and the bytes that it relocates.

-- the list has the fields if it is asked for, and else none; and so with one more
abbrev pub AreListed : Bool → List Field → List Field → Type 0
AreListed true ds list = list ≡ ds
AreListed false ds list = list ≡ []

abbrev pub IsListed : Bool → List Field → Field → List Field → Type 0
IsListed true old d new = new ≡ old ++ d ∷ []
IsListed false old d new = new ≡ old

-- of the fields of a list: if rules 13 to 15 are kept, the copies hold their numbers
pub record IsFoundOf (fs : List ObjectValue) (m : LinkMapValue) (listing : Bool) (ds : List Field) (found : Found) : Type 0 where
  pub read : AreFieldsRead fs m ds
  pub seen : IsSeenOf fs m ds found.seen
  pub list : AreListed listing ds found.list.items
  pub copies : HaveCopies fs (copies_view found.copies.items)
  pub relocated : AreKept fs m ds → AreRelocated fs m ds (length ds) (copies_view found.copies.items)

-- of the fields before a site; and of all
abbrev pub AreFoundBefore : List ObjectValue → LinkMapValue → List RelocRule → Bool → Site → Found → Type 0
AreFoundBefore fs m rules listing stop found = (ds : List Field) × AreFieldsBefore fs rules stop ds × IsFoundOf fs m listing ds found

abbrev pub AreAllFound : List ObjectValue → LinkMapValue → List RelocRule → Bool → Found → Type 0
AreAllFound fs m rules listing found = (ds : List Field) × AreFields fs rules ds × IsFoundOf fs m listing ds found

-- the copies hold the numbers of all fields, which keep rules 13 to 15
abbrev pub AreRelocatedCopies : List ObjectValue → LinkMapValue → List RelocRule → List (List (Option (List ℕ))) → Type 0
AreRelocatedCopies fs m rules rows = (ds : List Field) × AreValidated fs m rules ds × AreRelocated fs m ds (length ds) rows

-- the first site of a row, or none where it has none
abbrev pub IsFirstSite : Row Site → Option Site → Type 0
IsFirstSite row first = MatchOption first (Never row) (IsFirstAt row)

-- the first site of each rule of one field; no overlap if the fields ascend, and else the list of them; and the copies
pub record AreFoundInOrder (fs : List ObjectValue) (m : LinkMapValue) (rules : List RelocRule) (found : Found) : Type 0 where
  pub first_unplaced : IsFirstSite (unplaced fs m rules) found.seen.unplaced
  pub first_out_of_range : IsFirstSite (field_out_of_range fs rules) found.seen.out_of_range
  pub first_refused : IsFirstSite (value_out_of_range fs m rules) found.seen.refused
  pub apart : found.seen.ascending ≡ true → Never (fields_overlap fs rules)
  pub fields : found.seen.ascending ≡ false → AreFields fs rules found.list.items
  pub read : found.seen.ascending ≡ false → AreFieldsRead fs m found.list.items
  pub copies : Never (unplaced fs m rules) → Never (field_out_of_range fs rules) → Never (fields_overlap fs rules) →
      AreRelocatedCopies fs m rules (copies_view found.copies.items)
