-- The map is that of `map_indexed`: laws of link maps and of their faults say the rest of it, and that no other answer is one.
use Rattle.std.proofs.Common.{rules}
use Rattle.std.specs.Prelude.{IfErr, None}
use Rattle.elf_link_map.specs.LinkMap.{FirstOfLink, IsLinkFault, IsOnlyFault}
use Rattle.elf_link_map.proofs.Plans.{if_err_map, one_link_fault, only_fault}
use Rattle.elf_link_map.proofs.OneMap.{one_link_map}
use Rattle.elf_link_map.proofs.Public.{are_paged, outputs_stand, parts_apart}
use Rattle.elf_link_map.proofs.link.map.Goals as goal

pub returns-clause-apart : goal.returns-clause-apart
returns-clause-apart g c = parts_apart c.args.options.now c.args.objects.now c.in_ok-map_indexed.field-0.map c.in_ok-map_indexed.ensures.map

pub returns-clause-outputs : goal.returns-clause-outputs
returns-clause-outputs g c =
    outputs_stand c.args.options.now c.args.objects.now c.in_ok-map_indexed.field-0.map c.in_ok-map_indexed.ensures.map

pub returns-clause-paged : goal.returns-clause-paged
returns-clause-paged g c =
    let made = c.in_ok-map_indexed.ensures in
    are_paged c.args.options.now c.args.objects.now c.in_ok-map_indexed.field-0.map made.map made.sound c.prove_objects.ensures.kept

pub returns-clause-only_sound : goal.returns-clause-only_sound
returns-clause-only_sound g c x there =
    one_link_fault c.args.options.now c.args.objects.now x None there c.in_ok-map_indexed.ensures.sound

pub returns-clause-only_map : goal.returns-clause-only_map
returns-clause-only_map g c n is =
    one_link_map c.args.options.now c.args.objects.now n c.in_ok-map_indexed.field-0.map is c.in_ok-map_indexed.ensures.map

pub returns-in_err-map_indexed-clause-only_err : goal.returns-in_err-map_indexed-clause-only_err
returns-in_err-map_indexed-clause-only_err g c =
    let opt = c.args.options.now in
    let fs = c.args.objects.now in
    let only : IfErr c.map_indexed.result (IsOnlyFault (FirstOfLink opt fs)) =
    if_err_map (IsLinkFault opt fs) (IsOnlyFault (FirstOfLink opt fs)) c.map_indexed.result (only_fault opt fs) c.map_indexed.ensures.err in
    search rules
