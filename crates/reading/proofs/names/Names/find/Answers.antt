-- `reading::names::Names::find` meets its contract. Assumes nothing.
use mathlib.Core.Path.{sym, ap, ◌∙◌}
use mathlib.Core.List.{[]}
use native.Mathlib.Omega.{arith}
use lib.ListN.{length-map}
use Rattle.std.proofs.lemmas.List.{get_or-map}
use Rattle.reading.specs.Text.{same_bytes}
use Rattle.reading.specs.Names.{unpadded}
use Rattle.reading.proofs.Laws.Names.{column-found, column-next, column-end, column-from}
use Rattle.reading.proofs.names.Names.find.Goals as goal

pub loop-c-init : goal.loop-c-init
loop-c-init c = column-from c.args.from _ c.args.s.now c.args.self.once

pub returns-then-is_name : goal.returns-then-is_name
returns-then-is_name c =
    let a = c.args in
    let n = length-map a.self.table.now unpadded in
    let name = get_or-map unpadded a.self.table.now c.loop-c.c [] [] c.loop-c-test.true in
    let tested = ap (same_bytes a.s.now) name ∙ sym c.is_name.ensures ∙ c.if-is_name.true in
    sym (column-found _ _ c.loop-c.c c.loop-c.c (omega arith) tested) ∙ c.loop-c.invariant

pub loop-c-preserved : goal.loop-c-preserved
loop-c-preserved c =
    let a = c.args in
    let n = length-map a.self.table.now unpadded in
    let name = get_or-map unpadded a.self.table.now c.loop-c.c [] [] c.loop-c-test.true in
    let tested = ap (same_bytes a.s.now) name ∙ sym c.is_name.ensures ∙ c.if-is_name.false in
    sym (column-next _ _ c.loop-c.c c.loop-c.c (omega arith) tested) ∙ c.loop-c.invariant

pub returns : goal.returns
returns c =
    let n = length-map c.args.self.table.now unpadded in
    sym (column-end _ _ c.loop-c.c c.loop-c.c (omega arith)) ∙ c.loop-c.invariant
