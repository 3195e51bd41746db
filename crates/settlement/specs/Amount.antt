-- Readings, loss factors and the collected amount of one month ("The ledger" of document 01): for each of n
-- distributors 8 sectors, for each sector billed AT, injected AT, billed BT, injected BT in kWh (AT, BT: high and low
-- voltage of distribution). Nothing here knows a balance. Assumes nothing.
use Rattle.std.specs.Prelude.{Bool, false, ◌&&◌, List, ℕ, ◌+◌, ◌*◌, leb, get_or, ℤ, pos, ◌+ℤ◌, ◌*ℤ◌}
use Rattle.std.proofs.Math.IntN.{sub_ℕ}
use Rattle.numbers.specs.Bounded.{all_below}
use Rattle.numbers.specs.Rounding.{half_away}
use Rattle.numbers.specs.Signed.{signed_sum_below}
use Rattle.numbers.specs.Units.{between, bound_where}
use Rattle.numbers.specs.Sizes.{sector_count}

abbrev pub most_reading : ℕ
most_reading = 2000000000

-- the reading of kind k (0 billed AT, 1 injected AT, 2 billed BT, 3 injected BT) of distributor i in sector s
abbrev pub reading_of : List ℕ → ℕ → ℕ → ℕ → ℕ
reading_of readings i s k = get_or readings (i * 32 + s * 4 + k) 0

-- the sector s of distributor i in lists of 8 words a distributor
abbrev pub present_at : List Bool → ℕ → ℕ → Bool
present_at present i s = get_or present (i * sector_count + s) false

abbrev pub charge_at : List ℤ → ℕ → ℕ → ℤ
charge_at charges i s = get_or charges (i * sector_count + s) (pos 0)

-- PEAT and PEBT (terms of 01), the loss factors of distributor i, in ten-thousandths
abbrev pub high_loss_of : List ℕ → ℕ → ℕ
high_loss_of losses i = get_or losses (i * 2) 0

abbrev pub low_loss_of : List ℕ → ℕ → ℕ
low_loss_of losses i = get_or losses (i * 2 + 1) 0

-- "each at most 2,000,000,000, zero in an absent sector"
unfoldable pub reading_allowed : Bool → ℕ → Bool
reading_allowed present reading = leb reading (bound_where present most_reading)

-- the four readings of distributor i in sector s, and all of its readings
unfoldable pub sector_allowed : List Bool → List ℕ → ℕ → ℕ → Bool
sector_allowed present readings i s =
    all_below 4 (λ k. reading_allowed (present_at present i s) (reading_of readings i s k))

unfoldable pub readings_allowed : List Bool → List ℕ → ℕ → Bool
readings_allowed present readings i = all_below sector_count (sector_allowed present readings i)

-- "Loss factors PEAT, PEBT: 2n words, pairs, 10,000 to 20,000 ten-thousandths"
unfoldable pub losses_allowed : List ℕ → ℕ → Bool
losses_allowed losses i = between 10000 20000 (high_loss_of losses i) && between 10000 20000 (low_loss_of losses i)

-- cause 12 is met where this is false
unfoldable pub billing_in_range : ℕ → List Bool → List ℕ → List ℕ → Bool
billing_in_range n present readings losses =
    all_below n (λ i. readings_allowed present readings i && losses_allowed losses i)

-- "signed nets (billed less injected)" at high and at low voltage
unfoldable pub high_net : List ℕ → ℕ → ℕ → ℤ
high_net readings i s = sub_ℕ (reading_of readings i s 0) (reading_of readings i s 1)

unfoldable pub low_net : List ℕ → ℕ → ℕ → ℤ
low_net readings i s = sub_ℕ (reading_of readings i s 2) (reading_of readings i s 3)

-- "charges within ±10,500,000"
abbrev pub most_charge : ℕ
most_charge = 10500000

-- X (a term of 01) of a sector: its net energy carried up over the losses, in kWh, rounded half away by sector
unfoldable pub energy_with_losses : List ℕ → List ℕ → ℕ → ℕ → ℤ
energy_with_losses readings losses i s =
    half_away
    (high_net readings i s *ℤ pos (high_loss_of losses i * 10000)
    +ℤ low_net readings i s *ℤ pos (high_loss_of losses i * low_loss_of losses i))
    100000000

-- MFAR (a term of 01), the "collected amount" of distributor i, in $: the sum of charge * X over its sectors, rounded
-- half away once
unfoldable pub collected_amount : List ℤ → List ℕ → List ℕ → ℕ → ℤ
collected_amount charges readings losses i =
    half_away (signed_sum_below sector_count (λ s. charge_at charges i s *ℤ energy_with_losses readings losses i s)) 1000
