-- Two parts, one after the other.
use borrow.Author.Rules.{rules}
use Rattle.cable_trace.proofs.PutLaws.{entries_filled, rest_none}
use Rattle.cable_trace.proofs.put.entries.Goals as goal

pub returns : goal.returns
returns c =
    let a = c.args in
    let first = c.symbol_bytes.ensures in
    let rest = rest_none a.symbols.now a.out.now c.symbol_bytes.new.out c.fill.new.self a.training c.requires.0 c.requires.1 first (c.fill.ensures.after (search rules)) in
    entries_filled a.symbols.now a.out.now c.symbol_bytes.new.out c.fill.new.self a.training c.requires.0 c.requires.1 first rest
