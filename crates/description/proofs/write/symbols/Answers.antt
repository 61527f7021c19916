-- The front of a room that has a place for each symbol.
use mathlib.Core.Path.{◌≡◌, sym, ap, ◌∙◌}
use Prim.Native.Nat.{◌≤◌}
use native.Mathlib.Omega.{arith}
use lib.ListN.{length, take}
use lib.Seq.{take_at, length-take-le}
use Rattle.laws.specs.Values.{values_length, values}
use Rattle.description.proofs.ReadLaws.{well_long, well_most}
use Rattle.description.proofs.WriteLaws.{symbols_in_lem}
use Rattle.description.proofs.write.symbols.Goals as goal
use Rattle.description.proofs.write.symbols.Goals.{Start, After-symbol_room-room}

within : (s : Start) → s.args.n ≤ length s.args.t.now
within s = omega (arith, s.requires.count_is, well_long _ s.requires.well_described_lem)

room_end : (c : After-symbol_room-room) → c.args.n ≤ length c.symbol_room-room.result
room_end c = omega (arith, c.symbol_room-room.ensures, within (goal.at.After-symbol_room-room c).Start, well_most _ c.requires.well_described_lem)

pub slice_bounds-room-end : goal.slice_bounds-room-end
slice_bounds-room-end c = room_end (goal.at.slice_bounds-room-end c).After-symbol_room-room

part_long : (c : After-symbol_room-room) → length (take c.args.n c.symbol_room-room.result) ≡ c.args.n
part_long c = length-take-le c.args.n c.symbol_room-room.result (room_end c)

pub overflow_sub-start : goal.overflow_sub-start
overflow_sub-start c = within (goal.at.overflow_sub-start c).Start

pub slice_bounds-symbols-end : goal.slice_bounds-symbols-end
slice_bounds-symbols-end c = sym (part_long (goal.at.slice_bounds-symbols-end c).After-symbol_room-room)

pub symbols-requires : goal.symbols-requires
symbols-requires c =
    let at = goal.at.symbols-requires c in
    omega (arith, part_long at.After-symbol_room-room, within at.Start)

pub returns : goal.returns
returns c =
    let e = c.symbols.ensures ∙ ap (values _) (part_long (goal.at.returns c).After-symbol_room-room) in
    take_at c.symbols.new.out _ c.args.n (ap length e ∙ values_length _ c.args.n) ∙ e
    ∙ symbols_in_lem _ _ c.args.n (omega (arith, c.requires.count_is, well_long _ c.requires.well_described_lem)) c.requires.count_is
