-- Three parts, one behind another, to the end.
use mathlib.Core.Path.{◌≡◌, ap, ◌∙◌}
use mathlib.Core.List.{[]}
use native.Mathlib.Omega.{arith}
use lib.ListN.{take, drop, length-drop, drop_of_length-le}
use Rattle.words.specs.Words.{bytes}
use Rattle.words.proofs.ByteLaws.{two_bytes, four_bytes}
use Rattle.words.proofs.LibraryLaws.{le_bytes_two, le_bytes_four}
use Rattle.trace_layout.proofs.write.put_header.Goals as goal

pub returns : goal.returns
returns c =
    let rest = drop 2 (drop 6 c.args.out.now) in
    let settings = c.copy_from_slice.ensures.after in
    let count : c.copy_from_slice-2.new.self ≡ bytes 2 c.args.count = c.copy_from_slice-2.ensures.after ∙ ap (take 2) c.to_le_bytes.ensures ∙ le_bytes_two c.args.count in
    let step : c.copy_from_slice-3.new.self ≡ bytes 4 c.args.k.M = c.copy_from_slice-3.ensures.after ∙ c.to_le_bytes-2.ensures ∙ le_bytes_four c.args.k.M in
    let none : drop 4 rest ≡ [] = drop_of_length-le rest {i = 4} (omega (arith, length-drop 2 (drop 6 c.args.out.now), length-drop 6 c.args.out.now)) in
    rw (settings, count, step, two_bytes c.args.count, four_bytes c.args.k.M, none)
