-- The invariant: the first k parts are read, each list where the longest ones before it would end;
-- the words from there on are as they were lent.
use Rattle.journal.proofs.FormLaws.{FormSoFar}
use Rattle.journal.proofs.form.form_after.Given as goal

abbrev pub invariant-loop-k : goal.invariant-loop-k
invariant-loop-k l = FormSoFar l.form l.text l.at l.initial.words l.parts l.words l.next l.start l.k
