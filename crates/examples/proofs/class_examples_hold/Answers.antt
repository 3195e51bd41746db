-- The table's theorem.
use Rattle.examples.proofs.ClassExamples.{class_examples_lem}
use Rattle.examples.proofs.class_examples_hold.Goals as goal

pub returns : goal.returns
returns c = class_examples_lem
