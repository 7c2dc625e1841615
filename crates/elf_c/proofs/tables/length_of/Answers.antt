use Rattle.elf_c.proofs.ReadEntries.{length_before_null}
use Rattle.elf_c.proofs.tables.length_of.Goals as goal

pub returns-in-Some-DynamicArray : goal.returns-in-Some-DynamicArray
returns-in-Some-DynamicArray c =
    let end = c.first_null_entry.ensures in
    let kind = rw c.in-Some-DynamicArray.is at c.in-Some-DynamicArray.field-0-is in
    rw (c.in-Some-DynamicArray.is, kind)
    (length_before_null c.args.order c.args.content.now c.first_null_entry.result end.within end.before end.found)
