-- The sizes that the lists of every crate share, and the limit of a reading. Assumes nothing.
use Rattle.std.specs.Prelude.{ℕ}

-- "n (1 to 40)"
abbrev pub most_distributors : ℕ
most_distributors = 40

-- "Sector factors: 8n words": 8 sectors a distributor
abbrev pub sector_count : ℕ
sector_count = 8

-- "Readings: 32n words": 4 of each sector
abbrev pub distributor_readings : ℕ
distributor_readings = 32

-- "each at most 2,000,000,000", in kWh
abbrev pub most_reading : ℕ
most_reading = 2000000000

-- 8 sectors of 40 distributors
abbrev pub sector_places : ℕ
sector_places = 320
