-- The name and the count, and as many numbers into the first places.
use mathlib.Core.Path.{◌≡◌, refl, sym, ◌∙◌, ap}
use mathlib.Core.List.{◌++◌}
use Prim.Native.Nat.{◌≤◌}
use lib.ListN.{length, take, drop}
use lib.Seq.{length-take-le}
use Rattle.std.proofs.lemmas.Result.{IfOk-at_ok}
use Rattle.journal.specs.List.{list_after, list_left}
use Rattle.journal.proofs.ListLaws.{count_most, numbers_length}
use Rattle.journal.proofs.list.read_list.Goals as goal
use Rattle.journal.proofs.list.read_list.Goals.{In-Ok}

-- the count lies within the lent list
counted : (c : In-Ok) → c.in-Ok.counted.value ≤ length c.args.into.now
counted c =
    IfOk-at_ok (λ read. read.value ≤ length c.args.into.now) (sym c.read_count.ensures ∙ c.in-Ok.is)
    (count_most _ _ _ _)

room : (c : In-Ok) → length (take c.in-Ok.counted.value c.args.into.now) ≡ c.in-Ok.counted.value
room c = length-take-le _ _ (counted c)

pub slice_bounds-fill_numbers-end : goal.slice_bounds-fill_numbers-end
slice_bounds-fill_numbers-end c = counted (goal.at.slice_bounds-fill_numbers-end c).In-Ok

pub slice_bounds-fill_numbers-end-in-Ok : goal.slice_bounds-fill_numbers-end-in-Ok
slice_bounds-fill_numbers-end-in-Ok c = sym (room (goal.at.slice_bounds-fill_numbers-end-in-Ok c).In-Ok)

pub returns-in-Err : goal.returns-in-Err
unfolding list_after list_left
returns-in-Err c =
    let e = sym c.read_count.ensures ∙ c.in-Err.is in
    record { after = rw e refl; counted = rw e refl; lent = rw e refl }

pub returns-in-Err-fill_numbers : goal.returns-in-Err-fill_numbers
unfolding list_after list_left
returns-in-Err-fill_numbers c =
    let e = sym c.read_count.ensures ∙ c.in-Ok.is in
    let broken = rw (c.in-Err-fill_numbers.is, room (goal.at.returns-in-Err-fill_numbers c).In-Ok) at c.fill_numbers.ensures in
    record {
      after = rw e broken.0;
      counted = rw e refl;
      lent = rw e (ap (λ l. l ++ drop c.in-Ok.counted.value c.args.into.now) broken.1);
    }

pub returns-in-Ok-fill_numbers : goal.returns-in-Ok-fill_numbers
unfolding list_after
returns-in-Ok-fill_numbers c =
    let numbers = rw (c.in-Ok-fill_numbers.is, room (goal.at.returns-in-Ok-fill_numbers c).In-Ok) at c.fill_numbers.ensures in
    record {
      words = c.fill_numbers.new.into;
      after = rw (sym c.read_count.ensures ∙ c.in-Ok.is) numbers;
      counted = sym (IfOk-at_ok (λ read. length read.value ≡ c.in-Ok.counted.value) numbers
          (numbers_length _ _ _ _ _));
      lent = refl;
    }
