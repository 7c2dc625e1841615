use Rattle.tests_tool.proofs.AskedFile.{same_file}
use Rattle.tests_tool.proofs.check_alone.takes_the_same_file.Goals as goal

pub returns : goal.returns
returns c = same_file
