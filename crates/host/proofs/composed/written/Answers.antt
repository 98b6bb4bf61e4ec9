-- `host::composed::written` meets its contract. Assumes nothing.
use mathlib.Core.Path.{◌∙◌}
use Rattle.composing.proofs.Laws.Buffer.{line-count}
use Rattle.host.proofs.composed.written.Goals as goal

pub returns : goal.returns
returns c = record {
  count = c.unwrap_or.ensures ∙ line-count _ _ _ c.write_line.ensures;
  buffer = c.write_line.ensures.buffer;
}
