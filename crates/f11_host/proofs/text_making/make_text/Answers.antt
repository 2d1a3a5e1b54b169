use Rattle.std.proofs.Common.{[], inl, inr, refl, subst}
use Rattle.f11_store.specs.Ident.{ident_with}
use Rattle.f11_store.specs.declared.requests.Reply.TheVariants as reply
use Rattle.f11_store.specs.declared.requests.Request.TheVariants as request
use Rattle.f11_making.specs.Asking.{BreaksOffAsking, Fails, Granted, Grants, Who, told, who_asks}
use Rattle.f11_making.specs.Making.{as_stated, entry}
use Rattle.f11_making.specs.Making.{is_created}
use Rattle.f11_flx.specs.Spelled.{text_attributes}
use Rattle.f11_host.proofs.text_making.make_text.Goals as goal

pub returns-in-Err-clause-fails : goal.returns-in-Err-clause-fails
returns-in-Err-clause-fails g c =
    let who : Who = who_asks c.args.by.now.task c.args.by.now.uic in (
      [],
      λ pieces. inl (record {
        e = c.in-Err.refusal;
        is = refl;
        fails = subst (λ a. Fails g.S.Asked.service who is_created (request.Create 0 (ident_with c.args.entry.now.name) a) c.in-Err.refusal
            c.args.service.now c.create.new.service) c.text_attributes-first.ensures c.in-Err.ensures.refused;
        unread = refl;
      }),
    )

pub returns-in-Err-fill_text_file-clause-fails : goal.returns-in-Err-fill_text_file-clause-fails
returns-in-Err-fill_text_file-clause-fails g c =
    let who : Who = who_asks c.args.by.now.task c.args.by.now.uic in
    let k = c.in-Err-fill_text_file.ensures.fails in (
      k.0,
      λ pieces. inr (inl (record {
        id = c.in-Ok.id;
        f = c.in-Err-fill_text_file.refusal;
        created = c.create.new.service;
        left = c.fill_text_file.new.service;
        creates = (
          c.create.new.service,
          subst (λ a. Grants g.S.Asked.service who
              (told (request.Create 0 (ident_with c.args.entry.now.name) a) (reply.Created c.in-Ok.id)) c.args.service.now
              c.create.new.service) c.text_attributes-first.ensures c.in-Ok.ensures.created,
          refl,
        );
        fails = k.1;
        undoes = c.undo.ensures;
      })),
    )

pub returns-in-Ok-finish-clause-makes : goal.returns-in-Ok-finish-clause-makes
returns-in-Ok-finish-clause-makes g c =
    let who : Who = who_asks c.args.by.now.task c.args.by.now.uic in
    let k = c.in-Ok-fill_text_file.ensures.fills in (
      k.0,
      λ pieces. record {
        id = c.in-Ok.id;
        created = c.create.new.service;
        filled = c.fill_text_file.new.service;
        creates = (
          c.create.new.service,
          subst (λ a. Grants g.S.Asked.service who
              (told (request.Create 0 (ident_with c.args.entry.now.name) a) (reply.Created c.in-Ok.id)) c.args.service.now
              c.create.new.service) c.text_attributes-first.ensures c.in-Ok.ensures.created,
          refl,
        );
        fills = k.1;
        enters = subst (λ a. Granted g.S.Asked.service who
            (entry (as_stated c.args.entry.now.name c.args.entry.now.dir c.args.entry.now.protection
            (text_attributes c.args.plan.now.longest c.args.plan.now.blocks 0) a pieces) c.in-Ok.id) c.fill_text_file.new.service
            c.finish.new.service) c.text_attributes-attr.ensures (c.in-Ok-finish.ensures.granted
            (text_attributes c.args.plan.now.longest c.args.plan.now.blocks 0) pieces);
      },
    )

pub returns-in-Err-finish-clause-fails : goal.returns-in-Err-finish-clause-fails
returns-in-Err-finish-clause-fails g c =
    let who : Who = who_asks c.args.by.now.task c.args.by.now.uic in
    let k = c.in-Ok-fill_text_file.ensures.fills in (
      k.0,
      λ pieces. inr (inr (record {
        id = c.in-Ok.id;
        e = c.in-Err-finish.refusal;
        created = c.create.new.service;
        filled = c.fill_text_file.new.service;
        left = c.finish.new.service;
        creates = (
          c.create.new.service,
          subst (λ a. Grants g.S.Asked.service who
              (told (request.Create 0 (ident_with c.args.entry.now.name) a) (reply.Created c.in-Ok.id)) c.args.service.now
              c.create.new.service) c.text_attributes-first.ensures c.in-Ok.ensures.created,
          refl,
        );
        fills = k.1;
        breaks = subst (λ a. BreaksOffAsking g.S.Asked.service who
            (entry (as_stated c.args.entry.now.name c.args.entry.now.dir c.args.entry.now.protection
            (text_attributes c.args.plan.now.longest c.args.plan.now.blocks 0) a pieces) c.in-Ok.id) c.in-Err-finish.refusal
            c.fill_text_file.new.service c.finish.new.service) c.text_attributes-attr.ensures (c.in-Err-finish.ensures.denied
            (text_attributes c.args.plan.now.longest c.args.plan.now.blocks 0) pieces);
        undoes = c.undo-in-Err-finish.ensures;
      })),
    )
