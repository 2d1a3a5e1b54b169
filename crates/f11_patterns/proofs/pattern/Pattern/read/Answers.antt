use Rattle.std.proofs.Common.{◌≡◌, None, Some, sym, ◌∙◌}
use Rattle.std.proofs.lemmas.Bool.{false≢true}
use Rattle.f11_patterns.specs.Pattern.{BehindAsksFor}
use Rattle.f11_patterns.proofs.PatternLemmas.{same-parts, pattern-front, pattern-cut}
use Rattle.f11_patterns.proofs.pattern.Pattern.read.Goals as goal

pub returns-in_err-behind_dot-clause-every : goal.returns-in_err-behind_dot-clause-every
returns-in_err-behind_dot-clause-every c = λ parts is.
    let front = pattern-front c.args.text.now _ _ parts c.split.ensures is in
    absurd (c.in_err-behind_dot.ensures.every _ front.1)

pub returns-then-not-have_room-clause-every : goal.returns-then-not-have_room-clause-every
returns-then-not-have_room-clause-every c = λ parts is.
    let cut = pattern-cut c.args.text.now _ _ _ _ _ parts c.split.ensures c.in_ok-behind_dot.ensures.dot c.split-2.ensures is in
    absurd (false≢true (sym c.if-not-have_room.true
    ∙ c.have_room.ensures.1 (rw cut.0 is.proper.name_length, rw cut.1 is.proper.kind_length, rw (cut.0, cut.1) is.proper.not_empty)))

pub returns-in_err-versions-clause-every : goal.returns-in_err-versions-clause-every
returns-in_err-versions-clause-every c = λ parts is.
    let cut = pattern-cut c.args.text.now _ _ _ _ _ parts c.split.ensures c.in_ok-behind_dot.ensures.dot c.split-2.ensures is in
    let asks : BehindAsksFor c.split-2.result.1.now parts.versions = rw cut.2 is.asks in
    let missing : None ≡ Some parts.versions = c.in_err-versions.ensures.every parts.versions asks is.version in
    absurd (cc)

pub returns-clause-every : goal.returns-clause-every
returns-clause-every c = λ parts is.
    let cut = pattern-cut c.args.text.now _ _ _ _ _ parts c.split.ensures c.in_ok-behind_dot.ensures.dot c.split-2.ensures is in
    let asks : BehindAsksFor c.split-2.result.1.now parts.versions = rw cut.2 is.asks in
    let same : Some c.in_ok-versions.versions ≡ Some parts.versions =
    c.in_ok-versions.ensures.every parts.versions asks is.version in
    let versions : c.in_ok-versions.versions ≡ parts.versions = cc in
    same-parts _ parts cut.0 cut.1 versions
