-- `reading::fields::read_fields` meets its contract. Assumes nothing.
use mathlib.Core.Path.{refl, sym, ap, ◌∙◌}
use Rattle.reading.specs.Text.{same_bytes, up_to}
use Rattle.reading.specs.Names.{names_of, column_from, distinct}
use Rattle.reading.specs.Form.{read_fields}
use Rattle.reading.proofs.Laws.Names.{asm1-names, digester-names}
use Rattle.reading.proofs.fields.read_fields.Goals as goal

pub invariant_of-fields_in : goal.invariant_of-fields_in
unfolding same_bytes up_to column_from distinct
invariant_of-fields_in c = record { once = refl }

pub invariant_of-fields_in-in-Digester : goal.invariant_of-fields_in-in-Digester
unfolding same_bytes up_to column_from distinct
invariant_of-fields_in-in-Digester c = record { once = refl }

pub returns-in-Sludge : goal.returns-in-Sludge
returns-in-Sludge c =
    c.fields_in.ensures
    ∙ ap (λ ns. read_fields ns c.args.s.now) asm1-names
    ∙ ap (λ v. read_fields (names_of v) c.args.s.now) (sym c.in-Sludge.is)

pub returns-in-Digester : goal.returns-in-Digester
returns-in-Digester c =
    c.fields_in-in-Digester.ensures
    ∙ ap (λ ns. read_fields ns c.args.s.now) digester-names
    ∙ ap (λ v. read_fields (names_of v) c.args.s.now) (sym c.in-Digester.is)
