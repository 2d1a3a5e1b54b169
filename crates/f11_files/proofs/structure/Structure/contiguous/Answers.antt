use Rattle.std.proofs.Common.{◌≡◌, ◌-◌, ℕ, false, length, refl, ap, subst, ◌∙◌}
use Rattle.f11_index.specs.IndexFile.{free_slots_in, slots}
use Rattle.f11_store.specs.File.{need}
use Rattle.f11_files.specs.LayingOut.Whole.{FailsToLayOut}
use Rattle.f11_files.specs.Structure.{home_of, index_in}
use Rattle.f11_files.proofs.AnswerLemmas.{handed, reads-looked}
use Rattle.f11_files.proofs.Behind.{confined-read, more-looked, more-of, stays-handed}
use Rattle.f11_files.proofs.Extending.Room.{lacks-alike}
use Rattle.f11_files.proofs.Finding.Named.{there}
use Rattle.f11_files.proofs.LayingOut.Whole.{clean-handed, fails-whole, has-run-room, lays-whole, no-end, no-run-room}
use Rattle.f11_files.proofs.Opening.Kept.{looked-for}
use Rattle.f11_files.proofs.Opening.Space.{space-is}
use Rattle.f11_files.proofs.WriteLemmas.{looked-stays}
use Rattle.f11_files.proofs.structure.Structure.contiguous.Goals as goal

pub returns-in_err-end-clause-refused : goal.returns-in_err-end-clause-refused
returns-in_err-end-clause-refused g c =
    handed (λ r. FailsToLayOut false (home_of c.args.self.now) c.args.f c.args.n r (g.D.Device.disk c.args.device.now)
    (g.D.Device.disk c.find_end.new.device)) c.from_residual.result _ c.from_residual.ensures.1
    (no-end (home_of c.args.self.now) c.args.f c.args.n _ _ _ c.requires.some c.in_err-end.ensures.refused)

pub returns-in_err-end-clause-confined : goal.returns-in_err-end-clause-confined
returns-in_err-end-clause-confined g c = more-looked (home_of c.args.self.now) c.args.f.number c.in_err-end.ensures.refused.reads.looked

pub returns-in_err-judge_run-clause-refused : goal.returns-in_err-judge_run-clause-refused
returns-in_err-judge_run-clause-refused g c =
    handed (λ r. FailsToLayOut false (home_of c.args.self.now) c.args.f c.args.n r (g.D.Device.disk c.args.device.now)
    (g.D.Device.disk c.find_end.new.device)) c.from_residual-in_err-judge_run.result _ c.from_residual-in_err-judge_run.ensures.1
    (no-run-room c.args.self.now c.args.f c.args.n c.in_ok-end.end _ _ (g.D.Device.disk c.args.device.now)
    (g.D.Device.disk c.find_end.new.device) c.requires.is_for c.requires.own c.requires.some c.in_ok-end.ensures.end
    c.room_of-room.result c.free-free.result (length (free_slots_in (index_in c.args.self.now))) (slots (index_in c.args.self.now))
    c.headers_for.result c.room_of-room.ensures
    (λ honest. space-is c.args.self.now (g.D.Device.disk c.args.device.now) c.requires.is_for honest _ _ _ c.free-free.ensures.free refl
    refl)
    (lacks-alike _ _ _ (subst (λ (m : ℕ). m - c.headers_for.result ≡ m - length (free_slots_in (index_in c.args.self.now)))
    (c.need-more.ensures.need ∙ ap (λ (p : ℕ). need c.room_of-room.result p) c.run_pointers.ensures) c.headers_for.ensures))
    _ c.in_err-judge_run.ensures.refused)

pub returns-in_err-judge_run-clause-stays : goal.returns-in_err-judge_run-clause-stays
returns-in_err-judge_run-clause-stays g c =
    stays-handed c.from_residual-in_err-judge_run.result _ _ _ _ c.from_residual-in_err-judge_run.ensures.1
    (looked-stays c.args.self.now _ _ _ c.requires.is_for c.in_ok-end.ensures.end.ends.looked.looked)

pub returns-in_err-judge_run-clause-confined : goal.returns-in_err-judge_run-clause-confined
returns-in_err-judge_run-clause-confined g c =
    more-looked (home_of c.args.self.now) c.args.f.number c.in_ok-end.ensures.end.ends.looked.looked

pub lay_out_held-requires-clause-is_for : goal.lay_out_held-requires-clause-is_for
lay_out_held-requires-clause-is_for g c = looked-for c.args.self.now _ _ _ _ c.requires.is_for c.in_ok-end.ensures.end.ends.looked.looked

pub lay_out_held-requires-clause-room : goal.lay_out_held-requires-clause-room
lay_out_held-requires-clause-room g c =
    has-run-room c.args.self.now c.args.f c.args.n c.in_ok-end.end _ _ (g.D.Device.disk c.args.device.now)
    (g.D.Device.disk c.find_end.new.device) c.requires.is_for c.requires.own c.requires.some c.in_ok-end.ensures.end c.room_of-room.result
    c.free-free.result (length (free_slots_in (index_in c.args.self.now))) (slots (index_in c.args.self.now)) c.headers_for.result
    c.room_of-room.ensures
    (λ honest. space-is c.args.self.now (g.D.Device.disk c.args.device.now) c.requires.is_for honest _ _ _ c.free-free.ensures.free refl
    refl)
    (lacks-alike _ _ _ (subst (λ (m : ℕ). m - c.headers_for.result ≡ m - length (free_slots_in (index_in c.args.self.now)))
    (c.need-more.ensures.need ∙ ap (λ (p : ℕ). need c.room_of-room.result p) c.run_pointers.ensures) c.headers_for.ensures))
    c.in_ok-judge_run.ensures.room

pub returns-in_err-lay_out_held-clause-refused : goal.returns-in_err-lay_out_held-clause-refused
returns-in_err-lay_out_held-clause-refused g c =
    handed (λ r. FailsToLayOut false (home_of c.args.self.now) c.args.f c.args.n r (g.D.Device.disk c.args.device.now)
    (g.D.Device.disk c.lay_out_held.new.device)) c.from_residual-in_err-lay_out_held.result _
    c.from_residual-in_err-lay_out_held.ensures.1
    (fails-whole c.args.self.now c.args.f c.args.n c.in_ok-end.end _ _ (g.D.Device.disk c.args.device.now)
    (g.D.Device.disk c.find_end.new.device) c.requires.is_for c.requires.own c.requires.some c.in_ok-end.ensures.end
    c.room_of-room.result c.free-free.result (length (free_slots_in (index_in c.args.self.now))) (slots (index_in c.args.self.now))
    c.headers_for.result c.room_of-room.ensures
    (λ honest. space-is c.args.self.now (g.D.Device.disk c.args.device.now) c.requires.is_for honest _ _ _ c.free-free.ensures.free refl
    refl)
    (lacks-alike _ _ _ (subst (λ (m : ℕ). m - c.headers_for.result ≡ m - length (free_slots_in (index_in c.args.self.now)))
    (c.need-more.ensures.need ∙ ap (λ (p : ℕ). need c.room_of-room.result p) c.run_pointers.ensures) c.headers_for.ensures))
    c.in_ok-judge_run.ensures.room _ _ c.in_err-lay_out_held.ensures.refused)

pub returns-in_err-lay_out_held-clause-stays : goal.returns-in_err-lay_out_held-clause-stays
returns-in_err-lay_out_held-clause-stays g c =
    stays-handed c.from_residual-in_err-lay_out_held.result _ _ _ _ c.from_residual-in_err-lay_out_held.ensures.1
    c.in_err-lay_out_held.ensures.stays

pub returns-in_err-lay_out_held-clause-counts : goal.returns-in_err-lay_out_held-clause-counts
returns-in_err-lay_out_held-clause-counts g c =
    λ clean. c.in_err-lay_out_held.ensures.counts
    (clean-handed c.from_residual-in_err-lay_out_held.result _ c.from_residual-in_err-lay_out_held.ensures.1 clean)

pub returns-in_err-lay_out_held-clause-confined : goal.returns-in_err-lay_out_held-clause-confined
returns-in_err-lay_out_held-clause-confined g c =
    more-of c.args.self.now (home_of c.args.self.now) c.args.f.number _ _ refl c.requires.is_for
    (there c.args.self.now c.args.f _ _ c.requires.is_for c.in_ok-end.ensures.end.holds)
    (confined-read (reads-looked c.in_ok-end.ensures.end.ends.looked.looked) (home_of c.args.self.now) c.args.self.now c.args.f.number refl
    c.lay_out_held.ensures.confined)

pub returns-clause-laid : goal.returns-clause-laid
returns-clause-laid g c = (
  refl,
  lays-whole c.args.self.now c.args.f c.args.n c.in_ok-end.end _ _ (g.D.Device.disk c.args.device.now)
      (g.D.Device.disk c.find_end.new.device) c.requires.is_for c.requires.own c.requires.some c.in_ok-end.ensures.end c.room_of-room.result
      c.free-free.result (length (free_slots_in (index_in c.args.self.now))) (slots (index_in c.args.self.now)) c.headers_for.result
      c.room_of-room.ensures
      (λ honest. space-is c.args.self.now (g.D.Device.disk c.args.device.now) c.requires.is_for honest _ _ _ c.free-free.ensures.free refl
      refl)
      (lacks-alike _ _ _ (subst (λ (m : ℕ). m - c.headers_for.result ≡ m - length (free_slots_in (index_in c.args.self.now)))
      (c.need-more.ensures.need ∙ ap (λ (p : ℕ). need c.room_of-room.result p) c.run_pointers.ensures) c.headers_for.ensures))
      c.in_ok-judge_run.ensures.room _ c.in_ok-lay_out_held.ensures.laid,
)

pub returns-clause-confined : goal.returns-clause-confined
returns-clause-confined g c =
    more-of c.args.self.now (home_of c.args.self.now) c.args.f.number _ _ refl c.requires.is_for
    (there c.args.self.now c.args.f _ _ c.requires.is_for c.in_ok-end.ensures.end.holds)
    (confined-read (reads-looked c.in_ok-end.ensures.end.ends.looked.looked) (home_of c.args.self.now) c.args.self.now c.args.f.number refl
    c.lay_out_held.ensures.confined)
