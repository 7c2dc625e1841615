-- Rules 1 to 7 of the link: the options, and each file, section and symbol by itself.
-- (gABI chapter 4: e_machine, e_flags; sh_flags; section groups; st_info, st_shndx, st_value.)
use Rattle.std.specs.Prelude.{◌≡◌, ◌≢◌, ℕ, ◌%◌, ◌<◌, ◌⊎◌, true, List, [], ◌∷◌}
use Rattle.elf_field.specs.Abi.{SHF_LINK_ORDER, SHF_TLS, STB_GLOBAL, STB_LOCAL, STB_WEAK, STT_TLS}
use Rattle.elf_image_rules.specs.Rows.{Row, Ruled, rule}
use Rattle.elf_image_rules.specs.Rules.{IsWrongAlignment}
use Rattle.elf_link_files.specs.Files.{IsComdat, signature, object_at, section_in, symbol_in, Live, is_common}
use Rattle.elf_link_files.specs.Rows.{AtFile, AtSection, AtSymbol, Once, AtEach, section_count, symbol_count}
use Rattle.elf_link_files.specs.declared.fault.Options.{Options}
use Rattle.elf_link_files.specs.declared.site.Site.{Site}
use Rattle.elf_link_files.specs.declared.site.SiteTest.TheVariants.{Tls, LinkOrder, EmptySignature, BadSymbol, BadCommon}
use Rattle.elf_link_files.specs.declared.site.SiteTest.{SiteTest}
use Rattle.elf_object_type.specs.Object.{ObjectValue, SymbolValue, binding, symbol_type, HasFlag}

-- a number is no power of two: it is 0, or wrong as an alignment
abbrev pub IsNoPower : ℕ → Type 0
IsNoPower n = (n ≡ 0) ⊎ IsWrongAlignment n

-- rule 1: the page is no power of two, or the base no multiple of it
abbrev pub AreBadOptions : Options → Type 0
AreBadOptions opt = IsNoPower opt.page ⊎ (opt.base % opt.page ≢ 0)

abbrev pub bad_options : Options → Row Site
bad_options opt = Once (AreBadOptions opt)

-- rule 2: order, machine or flags differ from those of file 0
abbrev pub IsMismatch : ObjectValue → ObjectValue → Type 0
IsMismatch o p = (o.order ≢ p.order) ⊎ ((o.machine ≢ p.machine) ⊎ (o.flags ≢ p.flags))

abbrev pub mismatch : List ObjectValue → Row Site
mismatch fs = AtFile fs (λ f. IsMismatch (object_at fs 0) (object_at fs f))

-- rules 3 and 4: a live section has the flag TLS, or LINK_ORDER
abbrev pub IsLiveWith : ℕ → List ObjectValue → ℕ → ℕ → Type 0
IsLiveWith flag fs f s = HasFlag (section_in fs f s).flags flag × Live fs f s

abbrev pub tls : List ObjectValue → Row Site
tls fs = AtSection fs (IsLiveWith SHF_TLS fs)

abbrev pub link_order : List ObjectValue → Row Site
link_order fs = AtSection fs (IsLiveWith SHF_LINK_ORDER fs)

-- rule 5: a COMDAT group has an empty signature
abbrev pub HasEmptySignature : List ObjectValue → ℕ → ℕ → Type 0
HasEmptySignature fs f g = IsComdat fs f g × (signature fs f g ≡ [])

abbrev pub empty_signature : List ObjectValue → Row Site
empty_signature fs = AtSection fs (HasEmptySignature fs)

-- rule 6: a binding above WEAK, the type TLS, or no name though not local
abbrev pub IsBadSymbol : SymbolValue → Type 0
IsBadSymbol s = (STB_WEAK < binding s) ⊎ ((symbol_type s ≡ STT_TLS) ⊎ ((binding s ≢ STB_LOCAL) × (s.name ≡ [])))

abbrev pub bad_symbol : List ObjectValue → Row Site
bad_symbol fs = AtSymbol fs (λ f i. IsBadSymbol (symbol_in fs f i))

-- rule 7: a common that is not GLOBAL, or whose alignment, its value, is no power of two
abbrev pub IsBadCommon : SymbolValue → Type 0
IsBadCommon s = (is_common s.place ≡ true) × ((binding s ≢ STB_GLOBAL) ⊎ IsNoPower s.value)

abbrev pub bad_common : List ObjectValue → Row Site
bad_common fs = AtSymbol fs (λ f i. IsBadCommon (symbol_in fs f i))

abbrev pub option_rules : Options → List ObjectValue → List {1} (Ruled Site)
option_rules opt fs = rule 1 (bad_options opt) ∷ rule 2 (mismatch fs) ∷ []

abbrev pub link_section_rules : List ObjectValue → List {1} (Ruled Site)
link_section_rules fs = rule 3 (tls fs) ∷ rule 4 (link_order fs) ∷ rule 5 (empty_signature fs) ∷ []

abbrev pub link_symbol_rules : List ObjectValue → List {1} (Ruled Site)
link_symbol_rules fs = rule 6 (bad_symbol fs) ∷ rule 7 (bad_common fs) ∷ []

-- The tests that one search serves: rules 3 to 7.

-- what is tested: each section of a file, or each symbol
abbrev pub counted : SiteTest → ObjectValue → ℕ
counted Tls = section_count
counted LinkOrder = section_count
counted EmptySignature = section_count
counted BadSymbol = symbol_count
counted BadCommon = symbol_count

-- what breaks the rule of a test
abbrev pub BreaksSiteTest : List ObjectValue → SiteTest → ℕ → ℕ → Type 0
BreaksSiteTest fs Tls f i = IsLiveWith SHF_TLS fs f i
BreaksSiteTest fs LinkOrder f i = IsLiveWith SHF_LINK_ORDER fs f i
BreaksSiteTest fs EmptySignature f i = HasEmptySignature fs f i
BreaksSiteTest fs BadSymbol f i = IsBadSymbol (symbol_in fs f i)
BreaksSiteTest fs BadCommon f i = IsBadCommon (symbol_in fs f i)

abbrev pub row_of : List ObjectValue → SiteTest → Row Site
row_of fs test = AtEach (counted test) fs (BreaksSiteTest fs test)

-- i is the first position of file f that breaks it
abbrev pub IsFirstIn : List ObjectValue → SiteTest → ℕ → ℕ → Type 0
IsFirstIn fs test f i =
    (i < counted test (object_at fs f)) × BreaksSiteTest fs test f i × ((k : ℕ) → k < i → BreaksSiteTest fs test f k → ⊥)

abbrev pub HasNoneIn : List ObjectValue → SiteTest → ℕ → Type 0
HasNoneIn fs test f = (k : ℕ) → k < counted test (object_at fs f) → BreaksSiteTest fs test f k → ⊥
