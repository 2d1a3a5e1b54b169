use Rattle.std.proofs.Common.{false, inl, inr, refl, sym, ap, subst}
use Rattle.f11_dev.proofs.LookedLemmas.{looked_none}
use Rattle.f11_files.specs.Answers.{is_fatal}
use Rattle.f11_files.specs.Extending.Room.{HoldsEnd}
use Rattle.f11_files.specs.Extending.Runs.{headers_for, FailsToExtend}
use Rattle.f11_files.specs.Structure.{home_of}
use Rattle.f11_files.proofs.AnswerLemmas.{handed, not-clean}
use Rattle.f11_index.proofs.ChainLemmas.{file_of-header}
use Rattle.f11_files.proofs.Behind.{more-looked, more-of, stays-handed}
use Rattle.f11_files.proofs.Extending.Whole.{end-again, extends-then, fails-again, fatal-held, few-enough, fails-in-hand, length-then}
use Rattle.f11_files.proofs.Extending.Whole.{need-is, readies-file, room-ready, too-long, unfound, unready}
use Rattle.f11_files.proofs.Extending.Still.{ends-still, never-still}
use Rattle.f11_files.proofs.Extending.WholeConfined.{after-read, after-slots}
use Rattle.f11_files.proofs.Readied.{has-got}
use Rattle.f11_files.proofs.Removing.Freeing.{stays-for, stays-then}
use Rattle.f11_files.proofs.WriteLemmas.{looked-stays}
use Rattle.f11_files.proofs.structure.Structure.extend.Goals as goal

pub returns-in_err-end-clause-refused : goal.returns-in_err-end-clause-refused
returns-in_err-end-clause-refused g c =
    let s = c.args.self.now in
    let f = c.args.f in
    let n = c.args.n in
    let old = g.D.Device.disk c.args.device.now in
    let read = g.D.Device.disk c.find_end.new.device in
    handed (λ r. FailsToExtend false (home_of s) f n r old (g.D.Device.disk c.find_end.new.device)) c.from_residual.result _
    c.from_residual.ensures.1
    (unfound (home_of s) f n _ old read c.in_err-end.ensures.refused)

pub returns-in_err-end-clause-confined : goal.returns-in_err-end-clause-confined
returns-in_err-end-clause-confined g c =
    let s = c.args.self.now in
    let f = c.args.f in
    let n = c.args.n in
    let old = g.D.Device.disk c.args.device.now in
    let read = g.D.Device.disk c.find_end.new.device in
    after-read (home_of s) (headers_for (home_of s) f n old) f.number old read c.in_err-end.ensures.refused.reads.looked

pub returns-then-is_too_long-clause-refused : goal.returns-then-is_too_long-clause-refused
returns-then-is_too_long-clause-refused g c =
    let s = c.args.self.now in
    let f = c.args.f in
    let n = c.args.n in
    let old = g.D.Device.disk c.args.device.now in
    let read = g.D.Device.disk c.find_end.new.device in
    too-long s f n c.in_ok-end.end c.find_end.new.first c.find_end.new.last old read c.requires.is_for c.requires.own
    c.in_ok-end.ensures.end c.room_of-room.result c.room_of-room.ensures (sym c.if-is_too_long.ensures)

pub returns-then-is_too_long-clause-confined : goal.returns-then-is_too_long-clause-confined
returns-then-is_too_long-clause-confined g c =
    let s = c.args.self.now in
    let f = c.args.f in
    let n = c.args.n in
    let old = g.D.Device.disk c.args.device.now in
    let read = g.D.Device.disk c.find_end.new.device in
    after-read (home_of s) (headers_for (home_of s) f n old) f.number old read c.in_ok-end.ensures.end.ends.looked.looked

pub returns-in_err-ready_headers-clause-refused : goal.returns-in_err-ready_headers-clause-refused
returns-in_err-ready_headers-clause-refused g c =
    let s = c.args.self.now in
    let f = c.args.f in
    let n = c.args.n in
    let old = g.D.Device.disk c.args.device.now in
    let read = g.D.Device.disk c.find_end.new.device in
    let ready = g.D.Device.disk c.ready_headers.new.device in
    let t = c.ready_headers.new.self in
    handed (λ r. FailsToExtend false (home_of s) f n r old (g.D.Device.disk c.ready_headers.new.device))
    c.from_residual-in_err-ready_headers.result _ c.from_residual-in_err-ready_headers.ensures.1
    (unready s f n c.in_ok-end.end c.find_end.new.first c.find_end.new.last old read c.requires.is_for c.requires.own
    c.in_ok-end.ensures.end c.room_of-room.result c.room_of-room.ensures (sym c.if-is_too_long.ensures) _ ready
    (rw c.need.ensures.need at c.in_err-ready_headers.ensures.refused))

pub returns-in_err-ready_headers-clause-confined : goal.returns-in_err-ready_headers-clause-confined
returns-in_err-ready_headers-clause-confined g c =
    let s = c.args.self.now in
    let f = c.args.f in
    let n = c.args.n in
    let old = g.D.Device.disk c.args.device.now in
    let read = g.D.Device.disk c.find_end.new.device in
    let ready = g.D.Device.disk c.ready_headers.new.device in
    let t = c.ready_headers.new.self in
    after-slots (home_of s) (headers_for (home_of s) f n old) _ f.number old read ready _ c.in_ok-end.ensures.end.ends.looked.looked
    (need-is s f n c.in_ok-end.end c.find_end.new.first c.find_end.new.last old read c.requires.is_for c.requires.own
    c.in_ok-end.ensures.end c.room_of-room.result c.room_of-room.ensures)
    (rw c.need.ensures.need at c.ready_headers.ensures.confined) (inl refl) (more-looked (home_of s) f.number (looked_none ready))

pub returns-in_err-find_still-clause-refused : goal.returns-in_err-find_still-clause-refused
returns-in_err-find_still-clause-refused g c =
    let s = c.args.self.now in
    let f = c.args.f in
    let n = c.args.n in
    let old = g.D.Device.disk c.args.device.now in
    let read = g.D.Device.disk c.find_end.new.device in
    let ready = g.D.Device.disk c.ready_headers.new.device in
    let t = c.ready_headers.new.self in
    handed (λ r. FailsToExtend false (home_of s) f n r old ready)
    c.from_residual-in_err-find_still.result _ c.from_residual-in_err-find_still.ensures.1
    (subst (λ r. FailsToExtend false (home_of s) f n r old ready) (sym c.in_err-find_still.ensures.refused.damaged)
    (fails-again s f n c.in_ok-end.end c.find_end.new.first c.find_end.new.last old read c.requires.is_for c.requires.own
    c.in_ok-end.ensures.end c.room_of-room.result c.room_of-room.ensures (sym c.if-is_too_long.ensures) ready
    (readies-file s f n c.in_ok-end.end c.find_end.new.first c.find_end.new.last old read c.requires.is_for c.requires.own
    c.in_ok-end.ensures.end c.room_of-room.result c.room_of-room.ensures (sym c.if-is_too_long.ensures) ready
    (rw c.need.ensures.need at c.in_ok-ready_headers.ensures.ready))
    (never-still s f n c.in_ok-end.end c.find_end.new.first c.find_end.new.last old read c.requires.is_for c.requires.own
    c.in_ok-end.ensures.end c.room_of-room.result c.room_of-room.ensures (sym c.if-is_too_long.ensures) ready
    (readies-file s f n c.in_ok-end.end c.find_end.new.first c.find_end.new.last old read c.requires.is_for c.requires.own
    c.in_ok-end.ensures.end c.room_of-room.result c.room_of-room.ensures (sym c.if-is_too_long.ensures) ready
    (rw c.need.ensures.need at c.in_ok-ready_headers.ensures.ready)) t
    (g.met.D.Device.is_image c.ready_headers.new.device) c.in_ok-ready_headers.ensures.stays c.in_err-find_still.ensures.refused.not)))

pub returns-in_err-find_still-clause-stays : goal.returns-in_err-find_still-clause-stays
returns-in_err-find_still-clause-stays g c =
    stays-handed c.from_residual-in_err-find_still.result _ _ _ _ c.from_residual-in_err-find_still.ensures.1
    (stays-then c.in_ok-ready_headers.ensures.stays.home
    (looked-stays c.ready_headers.new.self _ _ _ (stays-for c.in_ok-ready_headers.ensures.stays)
    (looked_none (g.D.Device.disk c.ready_headers.new.device))))

pub returns-in_err-find_still-clause-counts : goal.returns-in_err-find_still-clause-counts
returns-in_err-find_still-clause-counts g c =
    not-clean c.from_residual-in_err-find_still.result _ c.from_residual-in_err-find_still.ensures.1
    (ap is_fatal c.in_err-find_still.ensures.refused.damaged)

pub returns-in_err-find_still-clause-confined : goal.returns-in_err-find_still-clause-confined
returns-in_err-find_still-clause-confined g c =
    let s = c.args.self.now in
    let f = c.args.f in
    let n = c.args.n in
    let old = g.D.Device.disk c.args.device.now in
    let read = g.D.Device.disk c.find_end.new.device in
    let ready = g.D.Device.disk c.ready_headers.new.device in
    let t = c.ready_headers.new.self in
    after-slots (home_of s) (headers_for (home_of s) f n old) _ f.number old read ready _ c.in_ok-end.ensures.end.ends.looked.looked
    (need-is s f n c.in_ok-end.end c.find_end.new.first c.find_end.new.last old read c.requires.is_for c.requires.own
    c.in_ok-end.ensures.end c.room_of-room.result c.room_of-room.ensures)
    (rw c.need.ensures.need at c.ready_headers.ensures.confined) (inl refl) (more-looked (home_of s) f.number (looked_none ready))

pub extend_held-requires-clause-is_for : goal.extend_held-requires-clause-is_for
extend_held-requires-clause-is_for g c =
    let s = c.args.self.now in
    let f = c.args.f in
    let n = c.args.n in
    let old = g.D.Device.disk c.args.device.now in
    let read = g.D.Device.disk c.find_end.new.device in
    let ready = g.D.Device.disk c.ready_headers.new.device in
    let t = c.ready_headers.new.self in
    stays-for c.in_ok-ready_headers.ensures.stays

pub extend_held-requires-clause-room : goal.extend_held-requires-clause-room
extend_held-requires-clause-room g c =
    let s = c.args.self.now in
    let f = c.args.f in
    let n = c.args.n in
    let old = g.D.Device.disk c.args.device.now in
    let read = g.D.Device.disk c.find_end.new.device in
    let ready = g.D.Device.disk c.ready_headers.new.device in
    let t = c.ready_headers.new.self in
    let ends : HoldsEnd t f c.in_ok-end.end c.find_end.new.first c.find_end.new.last ready =
    ends-still s f n c.in_ok-end.end c.find_end.new.first c.find_end.new.last old read c.requires.is_for c.requires.own
    c.in_ok-end.ensures.end c.room_of-room.result c.room_of-room.ensures (sym c.if-is_too_long.ensures) ready
    (readies-file s f n c.in_ok-end.end c.find_end.new.first c.find_end.new.last old read c.requires.is_for c.requires.own
    c.in_ok-end.ensures.end c.room_of-room.result c.room_of-room.ensures (sym c.if-is_too_long.ensures) ready
    (rw c.need.ensures.need at c.in_ok-ready_headers.ensures.ready)) t
    (g.met.D.Device.is_image c.ready_headers.new.device) c.in_ok-ready_headers.ensures.stays
    (rw c.need.ensures.need at c.ready_headers.ensures.confined) c.in_ok-find_still.ensures.found in
    room-ready s f n c.in_ok-end.end c.find_end.new.first c.find_end.new.last old read c.requires.is_for c.requires.own
    c.in_ok-end.ensures.end c.room_of-room.result c.room_of-room.ensures (sym c.if-is_too_long.ensures) ready
    (readies-file s f n c.in_ok-end.end c.find_end.new.first c.find_end.new.last old read c.requires.is_for c.requires.own
    c.in_ok-end.ensures.end c.room_of-room.result c.room_of-room.ensures (sym c.if-is_too_long.ensures) ready
    (rw c.need.ensures.need at c.in_ok-ready_headers.ensures.ready)) t ready _ _ c.in_ok-ready_headers.ensures.stays.home
    (looked_none ready) ends

pub returns-in_err-extend_held-clause-refused : goal.returns-in_err-extend_held-clause-refused
returns-in_err-extend_held-clause-refused g c =
    let s = c.args.self.now in
    let f = c.args.f in
    let n = c.args.n in
    let old = g.D.Device.disk c.args.device.now in
    let read = g.D.Device.disk c.find_end.new.device in
    let ready = g.D.Device.disk c.ready_headers.new.device in
    let t = c.ready_headers.new.self in
    handed (λ r. FailsToExtend false (home_of s) f n r old (g.D.Device.disk c.extend_held.new.device))
    c.from_residual-in_err-extend_held.result _ c.from_residual-in_err-extend_held.ensures.1
    (fails-in-hand s f n c.in_ok-end.end c.find_end.new.first c.find_end.new.last old read c.requires.is_for c.requires.own
    c.in_ok-end.ensures.end c.room_of-room.result c.room_of-room.ensures (sym c.if-is_too_long.ensures) ready
    (readies-file s f n c.in_ok-end.end c.find_end.new.first c.find_end.new.last old read c.requires.is_for c.requires.own
    c.in_ok-end.ensures.end c.room_of-room.result c.room_of-room.ensures (sym c.if-is_too_long.ensures) ready
    (rw c.need.ensures.need at c.in_ok-ready_headers.ensures.ready)) _ _
    (rw c.in_ok-ready_headers.ensures.stays.home at c.in_err-extend_held.ensures.refused))

pub returns-in_err-extend_held-clause-stays : goal.returns-in_err-extend_held-clause-stays
returns-in_err-extend_held-clause-stays g c =
    stays-handed c.from_residual-in_err-extend_held.result _ _ _ _ c.from_residual-in_err-extend_held.ensures.1
    (stays-then c.in_ok-ready_headers.ensures.stays.home c.in_err-extend_held.ensures.stays)

pub returns-in_err-extend_held-clause-counts : goal.returns-in_err-extend_held-clause-counts
returns-in_err-extend_held-clause-counts g c =
    let s = c.args.self.now in
    let f = c.args.f in
    let n = c.args.n in
    let old = g.D.Device.disk c.args.device.now in
    let read = g.D.Device.disk c.find_end.new.device in
    let ready = g.D.Device.disk c.ready_headers.new.device in
    let t = c.ready_headers.new.self in
    not-clean c.from_residual-in_err-extend_held.result _ c.from_residual-in_err-extend_held.ensures.1
    (fatal-held (home_of t) f n _ _ _ c.in_err-extend_held.ensures.refused)

pub returns-in_err-extend_held-clause-confined : goal.returns-in_err-extend_held-clause-confined
returns-in_err-extend_held-clause-confined g c =
    let s = c.args.self.now in
    let f = c.args.f in
    let n = c.args.n in
    let old = g.D.Device.disk c.args.device.now in
    let read = g.D.Device.disk c.find_end.new.device in
    let ready = g.D.Device.disk c.ready_headers.new.device in
    let t = c.ready_headers.new.self in
    after-slots (home_of s) (headers_for (home_of s) f n old) _ f.number old read ready _ c.in_ok-end.ensures.end.ends.looked.looked
    (need-is s f n c.in_ok-end.end c.find_end.new.first c.find_end.new.last old read c.requires.is_for c.requires.own
    c.in_ok-end.ensures.end c.room_of-room.result c.room_of-room.ensures)
    (rw c.need.ensures.need at c.ready_headers.ensures.confined)
    (inr (has-got (rw c.need.ensures.need at c.in_ok-ready_headers.ensures.ready)))
    (more-of t (home_of s) f.number ready (g.D.Device.disk c.extend_held.new.device) c.in_ok-ready_headers.ensures.stays.home
    (stays-for c.in_ok-ready_headers.ensures.stays)
    (λ honest. file_of-header (end-again s f n c.in_ok-end.end c.find_end.new.first c.find_end.new.last old read c.requires.is_for
    c.requires.own c.in_ok-end.ensures.end c.room_of-room.result c.room_of-room.ensures (sym c.if-is_too_long.ensures) ready
    (readies-file s f n c.in_ok-end.end c.find_end.new.first c.find_end.new.last old read c.requires.is_for c.requires.own
    c.in_ok-end.ensures.end c.room_of-room.result c.room_of-room.ensures (sym c.if-is_too_long.ensures) ready
    (rw c.need.ensures.need at c.in_ok-ready_headers.ensures.ready)) (g.met.D.Device.is_image c.ready_headers.new.device) honest).last.of)
    (rw c.in_ok-ready_headers.ensures.stays.home at c.extend_held.ensures.confined))

pub overflow_add-result : goal.overflow_add-result
overflow_add-result g c =
    let finds = c.in_ok-end.ensures.end in let few = finds.ends.few in let blocks = finds.ends.few_blocks in
    let fits = c.if-is_too_long.ensures in
    few-enough c.in_ok-end.end c.room_of-room.result c.args.n c.find_end.new.last c.find_end.array_long2 few blocks fits
    c.room_of-room.ensures

pub returns-clause-extended : goal.returns-clause-extended
returns-clause-extended g c =
    let s = c.args.self.now in
    let f = c.args.f in
    let n = c.args.n in
    let old = g.D.Device.disk c.args.device.now in
    let read = g.D.Device.disk c.find_end.new.device in
    let ready = g.D.Device.disk c.ready_headers.new.device in
    let t = c.ready_headers.new.self in (
      length-then s f n c.in_ok-end.end c.find_end.new.first c.find_end.new.last old read c.requires.is_for c.requires.own
          c.in_ok-end.ensures.end c.room_of-room.result c.room_of-room.ensures,
      extends-then s f n c.in_ok-end.end c.find_end.new.first
          c.find_end.new.last old read c.requires.is_for c.requires.own c.in_ok-end.ensures.end c.room_of-room.result c.room_of-room.ensures
          (sym c.if-is_too_long.ensures) ready
          (readies-file s f n c.in_ok-end.end c.find_end.new.first c.find_end.new.last old read c.requires.is_for c.requires.own
          c.in_ok-end.ensures.end c.room_of-room.result c.room_of-room.ensures (sym c.if-is_too_long.ensures) ready
          (rw c.need.ensures.need at c.in_ok-ready_headers.ensures.ready)) _
          (rw c.in_ok-ready_headers.ensures.stays.home at c.in_ok-extend_held.ensures.extended),
    )

pub returns-clause-stays : goal.returns-clause-stays
returns-clause-stays g c =
    stays-then c.in_ok-ready_headers.ensures.stays.home c.in_ok-extend_held.ensures.stays

pub returns-clause-confined : goal.returns-clause-confined
returns-clause-confined g c =
    let s = c.args.self.now in
    let f = c.args.f in
    let n = c.args.n in
    let old = g.D.Device.disk c.args.device.now in
    let read = g.D.Device.disk c.find_end.new.device in
    let ready = g.D.Device.disk c.ready_headers.new.device in
    let t = c.ready_headers.new.self in
    after-slots (home_of s) (headers_for (home_of s) f n old) _ f.number old read ready _ c.in_ok-end.ensures.end.ends.looked.looked
    (need-is s f n c.in_ok-end.end c.find_end.new.first c.find_end.new.last old read c.requires.is_for c.requires.own
    c.in_ok-end.ensures.end c.room_of-room.result c.room_of-room.ensures)
    (rw c.need.ensures.need at c.ready_headers.ensures.confined)
    (inr (has-got (rw c.need.ensures.need at c.in_ok-ready_headers.ensures.ready)))
    (more-of t (home_of s) f.number ready (g.D.Device.disk c.extend_held.new.device) c.in_ok-ready_headers.ensures.stays.home
    (stays-for c.in_ok-ready_headers.ensures.stays)
    (λ honest. file_of-header (end-again s f n c.in_ok-end.end c.find_end.new.first c.find_end.new.last old read c.requires.is_for
    c.requires.own c.in_ok-end.ensures.end c.room_of-room.result c.room_of-room.ensures (sym c.if-is_too_long.ensures) ready
    (readies-file s f n c.in_ok-end.end c.find_end.new.first c.find_end.new.last old read c.requires.is_for c.requires.own
    c.in_ok-end.ensures.end c.room_of-room.result c.room_of-room.ensures (sym c.if-is_too_long.ensures) ready
    (rw c.need.ensures.need at c.in_ok-ready_headers.ensures.ready)) (g.met.D.Device.is_image c.ready_headers.new.device) honest).last.of)
    (rw c.in_ok-ready_headers.ensures.stays.home at c.extend_held.ensures.confined))
