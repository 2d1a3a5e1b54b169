use Rattle.std.proofs.Common.{[], inl, refl}
use Rattle.f11_host.proofs.text_making.fill_text_file.Goals as goal

pub returns-in-Err-clause-fails : goal.returns-in-Err-clause-fails
returns-in-Err-clause-fails g c =
    ([], inl (record { e = c.in-Err.refusal; is = refl; denied = c.in-Err.ensures.denied; unread = refl }))
