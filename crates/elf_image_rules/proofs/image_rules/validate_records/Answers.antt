-- The runs of rules are tested in their order. If a run finds a broken rule after runs that found none, it is the file's fault, and rules 1
-- to 32 are not all kept. If no run finds one, they are all kept.
use Rattle.std.proofs.Common.{arith, refl}
use Rattle.elf_image_rules.proofs.ImageRules.{FirstIn-handed, FirstIn-stop, validated_broken, validated_unkept, from_length, from_ident}
use Rattle.elf_image_rules.proofs.ImageRules.{from_header, from_tables}
use Rattle.elf_image_rules.proofs.image_rules.validate_records.Goals as goal

pub returns-in_err-validate_length-clause-broken : goal.returns-in_err-validate_length-clause-broken
returns-in_err-validate_length-clause-broken c =
    validated_broken c.args.bytes.now _ (from_length c.args.bytes.now _ _ refl
    (FirstIn-stop _ _ _ _ c.in_err-validate_length.ensures.fault c.from_residual.ensures.1))

pub returns-in_err-validate_length-clause-unkept : goal.returns-in_err-validate_length-clause-unkept
returns-in_err-validate_length-clause-unkept c =
    validated_unkept c.args.bytes.now _ (from_length c.args.bytes.now _ _ refl
    (FirstIn-stop _ _ _ _ c.in_err-validate_length.ensures.fault c.from_residual.ensures.1))

pub header_of-header-requires : goal.header_of-header-requires
header_of-header-requires c = let long = c.in_ok-validate_length.ensures.long in omega arith

pub returns-in_err-validate_ident-clause-broken : goal.returns-in_err-validate_ident-clause-broken
returns-in_err-validate_ident-clause-broken c =
    validated_broken c.args.bytes.now _ (from_ident c.args.bytes.now _ _ c.header_of-header.ensures c.in_ok-validate_length.ensures.fault
    (FirstIn-stop _ _ _ _ c.in_err-validate_ident.ensures c.from_residual-in_err-validate_ident.ensures.1))

pub returns-in_err-validate_ident-clause-unkept : goal.returns-in_err-validate_ident-clause-unkept
returns-in_err-validate_ident-clause-unkept c =
    validated_unkept c.args.bytes.now _ (from_ident c.args.bytes.now _ _ c.header_of-header.ensures c.in_ok-validate_length.ensures.fault
    (FirstIn-stop _ _ _ _ c.in_err-validate_ident.ensures c.from_residual-in_err-validate_ident.ensures.1))

pub returns-in_err-validate_header-clause-broken : goal.returns-in_err-validate_header-clause-broken
returns-in_err-validate_header-clause-broken c =
    validated_broken c.args.bytes.now _ (from_header c.args.bytes.now _ _ c.header_of-header.ensures c.in_ok-validate_length.ensures.fault
    c.in_ok-validate_ident.ensures
    (FirstIn-stop _ _ _ _ c.in_err-validate_header.ensures.fault c.from_residual-in_err-validate_header.ensures.1))

pub returns-in_err-validate_header-clause-unkept : goal.returns-in_err-validate_header-clause-unkept
returns-in_err-validate_header-clause-unkept c =
    validated_unkept c.args.bytes.now _ (from_header c.args.bytes.now _ _ c.header_of-header.ensures c.in_ok-validate_length.ensures.fault
    c.in_ok-validate_ident.ensures
    (FirstIn-stop _ _ _ _ c.in_err-validate_header.ensures.fault c.from_residual-in_err-validate_header.ensures.1))

pub validate_tables-requires : goal.validate_tables-requires
validate_tables-requires c = c.in_ok-validate_header.ensures.first c.in_ok-validate_length.ensures.long

pub returns-in_err-counts-clause-broken : goal.returns-in_err-counts-clause-broken
returns-in_err-counts-clause-broken c =
    validated_broken c.args.bytes.now _ (from_tables c.args.bytes.now _ _ c.header_of-header.ensures c.in_ok-validate_length.ensures.fault
    c.in_ok-validate_ident.ensures c.in_ok-validate_header.ensures.fault
    (FirstIn-handed _ _ _ c.in_err-counts.ensures.fault c.from_residual-in_err-counts.ensures.1))

pub returns-in_err-counts-clause-unkept : goal.returns-in_err-counts-clause-unkept
returns-in_err-counts-clause-unkept c =
    validated_unkept c.args.bytes.now _ (from_tables c.args.bytes.now _ _ c.header_of-header.ensures c.in_ok-validate_length.ensures.fault
    c.in_ok-validate_ident.ensures c.in_ok-validate_header.ensures.fault
    (FirstIn-handed _ _ _ c.in_err-counts.ensures.fault c.from_residual-in_err-counts.ensures.1))

pub new-requires-clause-kept : goal.new-requires-clause-kept
new-requires-clause-kept c =
    from_tables c.args.bytes.now _ _ c.header_of-header.ensures c.in_ok-validate_length.ensures.fault
    c.in_ok-validate_ident.ensures c.in_ok-validate_header.ensures.fault c.in_ok-counts.ensures.fault
