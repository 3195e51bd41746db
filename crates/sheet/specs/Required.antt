-- What the functions of this crate require, and what those that are not open promise. Assumes nothing.
use Rattle.std.specs.Prelude.{◌≡◌, List, ℕ, ◌*◌, ◌≤◌, length}
use Rattle.numbers.specs.Sizes.{most_distributors, distributor_readings}
use Rattle.sheet.specs.Sheet.{map_place}
use Rattle.sheet.specs.Write.{most_distributor_bytes, written_first}

-- a sheet of n distributors that ends where the last of them does, and a list for its readings
pub record WholeSheet (n : ℕ) (sheet lent : List ℕ) : Type 0 where
  pub few : n ≤ most_distributors
  pub ends : map_place sheet n ≤ length sheet
  pub long : length lent ≡ n * distributor_readings

-- readings and a buffer that have their lengths
pub record Writable (n : ℕ) (readings buffer : List ℕ) : Type 0 where
  pub few : n ≤ most_distributors
  pub read : length readings ≡ n * distributor_readings
  pub room : n * most_distributor_bytes ≤ length buffer

-- bytes that were written first in a buffer, and how many they are
pub record FirstWritten (bytes found : List ℕ) (used : ℕ) (left : List ℕ) : Type 0 where
  pub sized : used ≡ length bytes
  pub listed : left ≡ written_first bytes found
