use Rattle.std.proofs.Common.{arith, sym}
use Rattle.elf_object_layout.proofs.Public.{index_table_found, names_found, own_found, strings_found, symbols_found}
use Rattle.elf_object_writer.proofs.placed_object.PlacedObject.section.Goals as goal

pub returns-then-position-own : goal.returns-then-position-own
returns-then-position-own c = record { there = omega arith; is = sym (own_found c.args.self.now.object c.args.position _ (omega arith)) }

pub returns-then-position-own-2 : goal.returns-then-position-own-2
returns-then-position-own-2 c = record { there = tt; is = sym (symbols_found c.args.self.now.object c.args.position _ (omega arith)) }

pub returns-then-position-count : goal.returns-then-position-count
returns-then-position-count c = record { there = tt; is = sym (names_found c.args.self.now.object c.args.position _ (omega arith)) }

pub returns-then-position-count-2 : goal.returns-then-position-count-2
returns-then-position-count-2 c = record { there = tt; is = sym (strings_found c.args.self.now.object c.args.position _ (omega arith)) }

pub returns-else-position-count-2 : goal.returns-else-position-count-2
returns-else-position-count-2 c =
    record { there = tt; is = sym (index_table_found c.args.self.now.object c.args.position _ (omega arith) (omega arith)) }
