use Rattle.std.proofs.Common.{◌≡◌, codes, refl, arith, rules}
use Rattle.text.proofs.Words.{spelled}
use Rattle.text.proofs.build.kind.Goals as goal

pub returns-in-internal : goal.returns-in-internal
returns-in-internal c =
    let same : c.args.word.now ≡ codes "internal" = spelled (codes "internal") c.args.word.now 0 (omega arith) (search rules) in rw same refl

pub returns-in-acquire : goal.returns-in-acquire
returns-in-acquire c =
    let same : c.args.word.now ≡ codes "acquire" = spelled (codes "acquire") c.args.word.now 0 (omega arith) (search rules) in rw same refl

pub returns-in-release : goal.returns-in-release
returns-in-release c =
    let same : c.args.word.now ≡ codes "release" = spelled (codes "release") c.args.word.now 0 (omega arith) (search rules) in rw same refl
