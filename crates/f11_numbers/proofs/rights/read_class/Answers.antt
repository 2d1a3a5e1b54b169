use Rattle.f11_numbers.proofs.RightsLemmas.{behind, class_read}
use Rattle.f11_numbers.proofs.rights.read_class.Goals as goal

pub returns-in_err-rest-clause-every : goal.returns-in_err-rest-clause-every
returns-in_err-rest-clause-every c word more few same =
    absurd (c.in_err-rest.ensures more
    (class_read c.read_right-read.ensures c.read_right-write.ensures c.read_right-extend.ensures c.read_right-delete.ensures
    c.args.end c.requires.no_letter word more few same).1)

pub returns-clause-every : goal.returns-clause-every
returns-clause-every c word more few same =
    let read = class_read c.read_right-read.ensures c.read_right-write.ensures c.read_right-extend.ensures c.read_right-delete.ensures
    c.args.end c.requires.no_letter word more few same in
    (read.0, behind c.in_ok-rest.ensures read.1)
