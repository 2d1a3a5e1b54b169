-- What a service answers that does nothing (profile).
use Rattle.std.specs.Prelude.{◌≡◌, Ok}
use Rattle.f11_store.specs.declared.requests.Reply.TheVariants as reply
use Rattle.f11_making.specs.Asking.{FilesService}

-- each request is answered Done, and no file that is accessed has a block
abbrev pub dry : {V : Type 0} → FilesService V
dry = record {
  serves = λ old call answer new. answer.result ≡ Ok reply.Done;
  measures = λ task lun result old new. result ≡ Ok 0;
}
