use Rattle.elf_link_names.proofs.ChosenCommons.{chosen_known}
use Rattle.elf_link_names.proofs.KnownNames.{common_known, common_unknown, strong_known, strong_unknown}
use Rattle.elf_link_names.proofs.commons.chosen_of.Goals as goal

pub returns-in-Some : goal.returns-in-Some
returns-in-Some c = λ fs name whole (first, none). none _ (strong_known fs name c.args.known _ c.in-Some.is whole).stands

pub returns-in-Some-common : goal.returns-in-Some-common
returns-in-Some-common c = λ fs name whole.
    chosen_known fs name c.in-Some-common.block c.args.id c.chosen_in.result (strong_unknown fs name c.args.known c.in_default.is whole)
    (common_known fs name c.args.known _ c.in-Some-common.is whole) c.chosen_in.ensures

pub returns-in-None : goal.returns-in-None
returns-in-None c = λ fs name whole (first, none). common_unknown fs name c.args.known c.in-None.is whole _ first.stands
