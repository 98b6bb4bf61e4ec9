-- `sheets::value::Scale::count_size` meets its contract. Assumes nothing.
use Rattle.sheets.proofs.Laws.Value.{size-down, size-up}
use Rattle.sheets.proofs.value.Scale.count_size.Goals as goal

pub returns-then-k-lt149 : goal.returns-then-k-lt149
returns-then-k-lt149 c =
    let a = c.args in
    let e = size-down a.m a.k a.self.per_unit c.if-k-lt149.true in
    cc

pub returns : goal.returns
returns c =
    let a = c.args in
    let e = size-up a.m a.k a.self.per_unit c.if-k-lt149.false in
    cc
