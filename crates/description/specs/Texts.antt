-- A text as bytes.
use Rattle.std.specs.Prelude.{List, [], ◌∷◌, ℕ}
use Prim.Native.Char.{code}
use Prim.Native.String.{String}
use Prim.Native.String as S

unfoldable pub text : String → List ℕ
text S.[] = []
text (S.◌∷◌ c s) = code c ∷ text s
