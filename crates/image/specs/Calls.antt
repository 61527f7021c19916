-- What the functions of the image ask of each other.
use Rattle.std.specs.Prelude.{List, ◌≡◌, ℕ, ◌≤◌, length}
use Rattle.words.specs.Words.{width}
use Rattle.steps.specs.Limits.{slots}
use Rattle.image.specs.Layout.{weight_word, data_place, taps_in}
use Rattle.image.specs.declared.layout.Layout.{Layout}

-- a layout and taps whose places are small numbers
pub record Placeable (y : Layout) (t : ℕ) : Type 0 where
  pub header_most : y.header ≤ 16
  pub weight_most : y.weight ≤ 4
  pub taps_most : t ≤ 510

-- what every row of the layouts has: a short header, and weights of the width that is read
pub record Row (y : Layout) : Type 0 where
  pub header_most : y.header ≤ 16
  pub weight_is : y.weight ≡ width weight_word

-- bytes of such a layout that reach to the end of its weights, and their taps
pub record Weighed (y : Layout) (l : List ℕ) (t : ℕ) : Type 0 where
  pub row : Row y
  pub taps_are : t ≡ taps_in l
  pub few : t ≤ slots
  pub long : data_place y t ≤ length l
