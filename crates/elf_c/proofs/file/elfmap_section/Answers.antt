use Rattle.elf_c.proofs.Listed.{put_there, put_value, section_listed_as}
use Rattle.elf_c.proofs.file.elfmap_section.Goals as goal

pub returns-clause-there : goal.returns-clause-there
returns-clause-there c is =
    put_there _ _ _ _ (section_listed_as c.args.file.now c.args.bytes.now c.args.index _ is c.section_in.ensures) c.put.ensures.there

pub returns-clause-value : goal.returns-clause-value
returns-clause-value c is =
    put_value _ _ _ _ _
    (section_listed_as c.args.file.now c.args.bytes.now c.args.index _ is c.section_in.ensures) c.put.ensures.there c.put.ensures.value

pub returns-clause-lies : goal.returns-clause-lies
returns-clause-lies c = put_there _ _ _ _ c.section_in.ensures c.put.ensures.there

pub returns-clause-read : goal.returns-clause-read
returns-clause-read c = put_value _ _ _ _ _ c.section_in.ensures c.put.ensures.there c.put.ensures.value
