-- Which sections are discarded, by the COMDAT groups in the order of the files. (gABI chapter 4, Section Groups: GRP_COMDAT.)
use Rattle.std.specs.Prelude.{ℕ, ◌≡◌, ◌<◌, List, Bool, true, false, [], get_or, length, map, set, ◌↔◌}
use Rattle.elf_link_files.specs.Files.{AreMembersMarked, IsComdat, IsGroupMember, IsSeen, mark, object_at, section_in, signature}
use Rattle.elf_link_files.specs.Files.{signature_position}
use Rattle.elf_image_rules.specs.Rows.{Row}
use Rattle.elf_link_files.specs.Rows.{AtSection, site, site_at}
use Rattle.elf_link_files.specs.declared.site.Site.{Site}
use Rattle.elf_object_type.specs.Object.{ObjectValue, members_of}

-- the COMDAT groups of the files
abbrev pub comdat_groups : List ObjectValue → Row Site
comdat_groups fs = AtSection fs (IsComdat fs)

-- the site of a group's signature symbol
abbrev pub signature_site : List ObjectValue → Site → Site
signature_site fs p = site p.file (signature_position (section_in fs p.file p.index).body)

-- the signatures of these groups
abbrev pub signatures_of : List ObjectValue → List Site → List (List ℕ)
signatures_of fs groups = map (λ p. signature fs p.file p.index) groups

-- section s of file f is a member of one of the first k of these groups, and an earlier COMDAT group has its signature
pub record IsDiscardedBy (fs : List ObjectValue) (groups : List Site) (k f s : ℕ) : Type 0 where
  pub group : ℕ
  pub below : group < k
  pub file : (site_at groups group).file ≡ f
  pub member : IsGroupMember fs f (site_at groups group).index s
  pub seen : IsSeen fs f (site_at groups group).index (signature fs f (site_at groups group).index)

-- the sections with a mark are those
pub record AreMarksOf (fs : List ObjectValue) (groups : List Site) (k : ℕ) (marks : List (List Bool)) : Type 0 where
  pub files : length marks ≡ length fs
  pub long : (f : ℕ) → f < length fs → length (get_or marks f []) ≡ length (object_at fs f).sections
  pub right : (f s : ℕ) → f < length fs → s < length (object_at fs f).sections → (mark marks f s ≡ true) ↔ IsDiscardedBy fs groups k f s

-- the members of a group have marks now, besides what had one before
abbrev pub IsGroupMarked : List ObjectValue → Site → List (List Bool) → List (List Bool) → Type 0
IsGroupMarked fs p old new = (row : List Bool) × (new ≡ set old p.file row) ×
    (let members = members_of (section_in fs p.file p.index).body in AreMembersMarked (get_or old p.file []) members (length members) row)

-- no section of the first n files has a mark
pub record AreUnmarked (fs : List ObjectValue) (n : ℕ) (marks : List (List Bool)) : Type 0 where
  pub count : length marks ≡ n
  pub long : (f : ℕ) → f < n → length (get_or marks f []) ≡ length (object_at fs f).sections
  pub clear : (f s : ℕ) → f < n → s < length (object_at fs f).sections → mark marks f s ≡ false
