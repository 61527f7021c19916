-- The front of a room that has a place for each value.
use mathlib.Core.Path.{◌≡◌, sym, ap, ◌∙◌}
use Prim.Native.Nat.{◌≤◌}
use native.Mathlib.Omega.{arith}
use lib.ListN.{length, take}
use lib.Seq.{take_at, length-take-le}
use Rattle.laws.specs.Values.{values_length, values}
use Rattle.description.proofs.ReadLaws.{well_long, well_most}
use Rattle.description.proofs.WriteLaws.{response_in_lem}
use Rattle.description.proofs.write.response.Goals as goal
use Rattle.description.proofs.write.response.Goals.{After-response_room-room}

room_end : (c : After-response_room-room) → c.args.k ≤ length c.response_room-room.result
room_end c = let p = c.requires in omega (arith, c.response_room-room.ensures, p.count_is, well_long _ p.well_described_lem, well_most _ p.well_described_lem)

pub slice_bounds-room-end : goal.slice_bounds-room-end
slice_bounds-room-end c = room_end (goal.at.slice_bounds-room-end c).After-response_room-room

part_long : (c : After-response_room-room) → length (take c.args.k c.response_room-room.result) ≡ c.args.k
part_long c = length-take-le c.args.k c.response_room-room.result (room_end c)

pub slice_bounds-response-end : goal.slice_bounds-response-end
slice_bounds-response-end c = sym (part_long (goal.at.slice_bounds-response-end c).After-response_room-room)

pub response-requires : goal.response-requires
response-requires c =
    omega (arith, part_long (goal.at.response-requires c).After-response_room-room, c.requires.count_is, well_long _ c.requires.well_described_lem)

pub returns : goal.returns
returns c =
    let e = c.response.ensures ∙ ap (values _) (part_long (goal.at.returns c).After-response_room-room) in
    take_at c.response.new.out _ c.args.k (ap length e ∙ values_length _ c.args.k) ∙ e ∙ response_in_lem _ c.args.k c.requires.count_is
