-- A copy that is made over a sound volume, seen as the plain store.
use Rattle.std.proofs.Common.{◌≡◌, ℕ, Bool, true, false, List, ◌++◌, Some, refl, sym, subst}
use Rattle.f11_dev.specs.Disk.{Disk}
use Rattle.f11_dev.specs.declared.device.Device.{Ghosts}
use Rattle.f11_store.specs.Store.{Store}
use Rattle.f11_store.specs.declared.files.FileId.{FileId}
use Rattle.f11_store.specs.declared.requests.Reply.TheVariants as reply
use Rattle.rt11_volume.specs.Files.{file_area}
use Rattle.rt11_volume.specs.Verifying.Verdict.{IsSoundDisk}
use Rattle.rt11_volume.specs.declared.volume.RtAccepted.{RtAccepted}
use Rattle.f11_making.specs.Asking.{Granted, FilesService, Who, plain}
use Rattle.f11_making.specs.Making.{Making, as_file, creation, entry, filling, making_of, new_id, opening}
use Rattle.f11_flx.specs.CopyFromRt.{CopiesFromRt, HasMaking}
use Rattle.f11_flx.specs.FromRt.{CopiesFrom}
use Rattle.f11_making.specs.Making.{filling_of}
use Rattle.f11_flx.specs.Making.{FillsFromRt, MakesFile}
use Rattle.f11_flx.specs.Passes.{IsCopied}
use Rattle.f11_flx.specs.Planning.{IsPlan, Plans}
use Rattle.f11_flx.specs.RtSource.{HasContents}
use Rattle.f11_flx.specs.Target.{rt_disk, rt_store}
use Rattle.f11_flx.specs.declared.mode.CopyMode.{CopyMode}
use Rattle.f11_making.proofs.AskingLemmas.{granted-append}
use Rattle.f11_flx.proofs.FromRt.MakingLemmas.{pieces-are}
use Rattle.f11_flx.proofs.FromRt.PassLemmas.{same-contents, stays-sound}
use Rattle.f11_flx.proofs.FromRt.PassedLemmas.{all-of}
use Rattle.f11_making.specs.Seen.{IsSeenPlain}
use Rattle.f11_flx.proofs.Made.SeenLemmas.{granted-seen}

-- the file that is created is the next one
pub created-next : (making : Making) (id : FileId) (who : Who) (s s' : Store) → Granted plain who (creation making id) s s' → id ≡ new_id s
created-next making id who s s' h =
    let is : reply.Created id ≡ reply.Created (new_id s) = h.1.2.reply_is in cc

-- a file that was made from any source, where the blocks that are written are its own
module _ {V H : Type 0} (S : FilesService V) (who : Who) (lun : ℕ) (Fills : H → H → V → V → Type 0) (making : Making) (a b : H)
    (filled : (x y : V) → Fills a b x y → Granted S who (filling lun making.blocks) x y) where
  making-granted : (v w : V) → (h : MakesFile S who lun Fills making a b v w) → Granted S who (making_of making lun h.id) v w
  making-granted v w h =
      granted-append S who (creation making h.id) (opening lun h.id ++ (filling lun making.blocks ++ entry making h.id)) v h.created w
      h.creates
      (granted-append S who (opening lun h.id) (filling lun making.blocks ++ entry making h.id) h.created h.fills.between w h.fills.opened
      (granted-append S who (filling lun making.blocks) (entry making h.id) h.fills.between h.filled w
      (filled h.fills.between h.filled h.fills.fills) h.enters))

  -- over a sound volume it is made over its plain store
  pub making-seen : (view : V → Store) (is_sound : V → Bool) → IsSeenPlain S view is_sound → (v w : V) → is_sound v ≡ true
      → MakesFile S who lun Fills making a b v w → Granted plain who (making_of making lun (new_id (view v))) (view v) (view w)
  making-seen view is_sound seen v w sound h =
      let id : h.id ≡ new_id (view v) = created-next making h.id who (view v) (view h.created)
      (granted-seen S view is_sound seen who (creation making h.id) v h.created h.creates sound).0 in
      subst (λ i. Granted plain who (making_of making lun i) (view v) (view w)) id
      (granted-seen S view is_sound seen who (making_of making lun h.id) v w (making-granted v w h) sound).0

-- the file of a sound volume, and its plan
pub record Planned (m : CopyMode) (name : List ℕ) (many blocks : ℕ) (attr : List ℕ) {E : Type 0} {met : Ghosts E} (disk : E → Disk)
    (rt between : RtAccepted E met) : Type 0 where
  pub contents : List (List ℕ)
  pub has : HasContents name contents (rt_store disk rt)
  pub later : HasContents name contents (rt_store disk between)
  pub sound : IsSoundDisk (rt_disk disk between)
  pub plan : IsPlan m many blocks attr contents

module _ {E : Type 0} {met : Ghosts E} (disk : E → Disk) (m : CopyMode) (name : List ℕ) where
  pub planned : (many blocks : ℕ) (attr : List ℕ) (rt between : RtAccepted E met) → Plans disk m name many blocks attr rt between
      → IsSoundDisk (rt_disk disk rt) → Planned m name many blocks attr disk rt between
  planned many blocks attr rt between p s =
      let contents = (file_area (p.file s)).contents in
      let has : HasContents name contents (rt_store disk rt) = record { file = p.file s; contents = refl } in
      record {
        contents = contents;
        has = has;
        later = same-contents disk name contents false rt between p.looks has;
        sound = stays-sound disk false rt between p.looks s;
        plan = p.plan s contents has;
      }

  -- what is made of it
  pub has-making : (many blocks : ℕ) (attr : List ℕ) (rt between : RtAccepted E met) (dir : FileId) (to : List ℕ) (protection : ℕ)
      → (p : Planned m name many blocks attr disk rt between) →
      HasMaking m name (rt_store disk rt) (as_file to dir protection attr p.plan.pieces)
  has-making many blocks attr rt between dir to protection p = record {
    file = p.has.file;
    copy = p.plan.copied.copy;
    converted = subst (λ l. Rattle.f11_flx.specs.Conversion.copied_from_rt m l ≡ Some p.plan.copied.copy) (sym p.has.contents)
        p.plan.copied.converted;
    content_is = p.plan.copied.content_is;
    whole = p.plan.copied.whole;
    attr_is = p.plan.copied.attr_is;
  }

  module _ {V : Type 0} (S : FilesService V) (who : Who) (lun : ℕ) where
    -- the blocks that are written are those of the plan
    pub filled-as-planned : (many blocks : ℕ) (attr : List ℕ) (rt between rt' : RtAccepted E met) (v w : V)
        → (p : Planned m name many blocks attr disk rt between) → FillsFromRt S disk m who lun name many blocks between rt' v w →
        Granted S who (filling lun p.plan.pieces) v w
    filled-as-planned many blocks attr rt between rt' v w p h =
        let front = h.reads.are p.sound p.contents p.later in
        let same : p.contents ≡ h.source = all-of h.source p.contents many h.count front p.plan.count in
        let pieces : h.pieces ≡ p.plan.pieces = pieces-are m p.contents p.plan.pieces h.pieces attr h.attr p.plan.copied
        (subst (λ l. IsCopied m l h.pieces h.attr) (sym same) h.copied) in
        subst (λ n. Granted S who (filling_of lun n p.plan.pieces) v w) (sym p.plan.blocks_are)
        (subst (λ l. Granted S who (filling_of lun blocks l) v w) pieces h.granted)

    -- a copy over a sound volume is one over its plain store
    pub copies-seen : (view : V → Store) (is_sound : V → Bool) → IsSeenPlain S view is_sound
        → (dir : FileId) (to : List ℕ) (protection blocks : ℕ) (rt rt' : RtAccepted E met) (v w : V) →
        CopiesFrom S disk m who lun name dir to protection blocks rt rt' v w → is_sound v ≡ true → IsSoundDisk (rt_disk disk rt) →
        CopiesFromRt m name who lun dir to protection blocks (rt_store disk rt) (view v) (view w)
    copies-seen view is_sound seen dir to protection blocks rt rt' v w h sound s =
        let p = planned h.many blocks h.attr rt h.between h.plans s in
        record {
          attr = h.attr;
          pieces = p.plan.pieces;
          has = has-making h.many blocks h.attr rt h.between dir to protection p;
          blocks_are = p.plan.blocks_are;
          asked =
              making-seen S who lun (FillsFromRt {met = met} S disk m who lun name h.many blocks)
              (as_file to dir protection h.attr p.plan.pieces)
              h.between rt' (λ x y k. filled-as-planned h.many blocks h.attr rt h.between rt' x y p k) view is_sound seen v w sound
              (h.makes p.plan.pieces);
        }
