use Rattle.std.proofs.Common.{ap, ◌∙◌}
use Rattle.std.proofs.lemmas.List.{get_or_read}
use Rattle.elf_link_map.specs.Standing.{no_member}
use Rattle.elf_exec.specs.ExecWriting.{member_content}
use Rattle.elf_exec.proofs.ExecText.{padded_sent}
use Rattle.elf_exec.proofs.pieces.MemberPiecesChunks.send.Goals as goal

pub returns : goal.returns
returns g c =
    let pieces = c.args.self.now in
    let same = c.member_content.ensures ∙
    ap (member_content pieces.linked.now) (get_or_read pieces.output.now.members.items _ _ c.requires c.index.ensures no_member) in
    padded_sent _ _ _ _ _ _ _ _ _ c.send.result c.in_ok-out.ensures c.member_padding-padding.ensures same c.send.ensures
