use Rattle.std.proofs.Common.{◌∙◌, ap}
use Rattle.elf_field.specs.declared.number.Order.{Order}
use Rattle.elf_field.specs.Headers.{ehdr_at}
use Rattle.elf_image_rules.specs.Tables.{header}
use Rattle.elf_image_rules.proofs.tables.header_of.Goals as goal

pub returns : goal.returns
unfolding header
returns c =
    c.get_at.ensures.value ∙ ap (λ (o : Order). ehdr_at o c.args.bytes.now 0) c.order_in.ensures
