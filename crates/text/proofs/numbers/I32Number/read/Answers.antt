use Rattle.text.proofs.Numerals.{wide_read}
use Rattle.text.proofs.numbers.I32Number.read.Goals as goal

pub returns : goal.returns
returns c = record {
  spelt = wide_read c.args.digits.now c.args.place c.parse.result (λ u. let q = c.parse.ensures.parsed u in (q.0, q.1.0, q.2));
  parsed = λ u. let q = c.parse.ensures.parsed u in (q.0, q.1.0, q.2);
  other = c.parse.ensures.other;
}
