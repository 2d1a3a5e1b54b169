-- What each call on files leaves of lost blocks, where the volume hadn't failed.
use Rattle.std.proofs.Common.{◌≡◌, ℕ, Bool, true, false, cond, IsTrue, List, [], None, refl, sym, ap, subst, ◌∙◌}
use Rattle.std.specs.Prelude.{IfErr, IfOk, OnOk, Result, Ok, Err}
use Rattle.std.proofs.lemmas.Bool.{false≢true}
use Rattle.f11_chain.specs.FileHeaders.{file_blocks}
use Rattle.f11_chain.specs.Windows.{ReadsIn}
use Rattle.f11_chain.specs.declared.windows.Window.{Window}
use Rattle.f11_dev.specs.Disk.{Disk}
use Rattle.f11_dev.specs.Image.{Image}
use Rattle.f11_dev.proofs.LookedLemmas.{looked_failed_read, looked_read}
use Rattle.f11_home.specs.Home.{HomeFields}
use Rattle.f11_index.specs.IndexFile.{index_of}
use Rattle.f11_index.specs.Table.{table_of, IsFile}
use Rattle.f11_store.specs.Causes.{is_missing}
use Rattle.f11_store.specs.Changes.{is_in, with_block}
use Rattle.f11_store.specs.File.{File}
use Rattle.f11_store.specs.Pieces.{file_numbered}
use Rattle.f11_store.specs.Store.{file_named, Store}
use Rattle.f11_store.specs.declared.callers.Uic.{Uic}
use Rattle.f11_store.specs.declared.files.FileId.{FileId}
use Rattle.f11_store.specs.declared.refusals.Refusal.{Refusal}
use Rattle.f11_store.proofs.StoreLemmas.{none_first}
use Rattle.f11_volume.specs.Sound.{HasSoundVolume}
use Rattle.f11_volume.specs.Volume.{volume_of}
use Rattle.f11_writes.specs.Lost.{StayLost, SparesLost}
use Rattle.f11_writes.proofs.LostLemmas.{stay-then}
use Rattle.f11_image_store.specs.Allocation.{free_list}
use Rattle.f11_image_store.specs.Confines.{either, new_header, no_header, only_header}
use Rattle.f11_image_store.specs.StoreOf.{store_of}
use Rattle.f11_files.specs.Answers.{blocks_of, is_fatal, is_refused, WritesBlocksOf, WritesFirstOf, WritesHeadersOf, WritesMoreOf}
use Rattle.f11_files.specs.Answers.{WritesNewHeaders}
use Rattle.f11_files.specs.Changing.Fields.{Alters, FailsToAlter}
use Rattle.f11_files.specs.Create.{Creates, FailsToCreate}
use Rattle.f11_files.specs.Extending.Runs.{headers_for, ExtendsFile, FailsToExtend, IsLengthAfter}
use Rattle.f11_files.specs.Finding.Blocks.{FailsToStore, StoresBlock}
use Rattle.f11_files.specs.Finding.Windows.{FailsToStoreBy, IsOfFile, StoresBy}
use Rattle.f11_files.specs.GrowingIndex.Headroom.{ReadiesHeaders, WritesAfterSlots}
use Rattle.f11_files.specs.GrowingIndex.Runs.{FailsToGrow, GrowsIndexFile, IsSlotsAfter}
use Rattle.f11_files.specs.LayingOut.Whole.{FailsToLayOut, LaysOutFile}
use Rattle.f11_files.specs.Removing.Delete.{Deletes, FailsToDelete}
use Rattle.f11_files.specs.Removing.Truncate.{Cuts, FailsToCut}
use Rattle.f11_files.proofs.Finding.Windows.{is-there}
use Rattle.f11_files.proofs.Lost.Beside.{after-beside, confined-beside, free-none-lost, looked-stay, NoneLost, reads-beside}
use Rattle.f11_files.proofs.Lost.Stay.{all-kept-stay, cut-stay, entered-stay, gained-stay, gone-stay, index-stay, not-in, run-stay}
use Rattle.f11_files.proofs.Lost.Stay.{slots-stay}
use Rattle.f11_files.proofs.Readied.{has-got}
use Rattle.f11_files.proofs.Rows.{held-changed, held-cut, held-gone, held-grown, held-other, held_of}

-- a call of which this is the answer, on a volume that hadn't failed
pub as-answered : (failed fails fatal : Bool) (old new : Disk) → failed ≡ false → fails ≡ fatal → SparesLost false fatal old new
    → SparesLost failed fails old new
as-answered failed fails fatal old new alive same one =
    subst (λ (f : Bool). SparesLost f fails old new) (sym alive) (subst (λ (f : Bool). SparesLost false f old new) (sym same) one)

-- a block was read by a window, or wasn't
pub read-beside : (old new : Disk) (w : Window) (vbn : ℕ) (block : List ℕ) (r : Result Unit Refusal) → ReadsIn w vbn r block old new
    → SparesLost false (is_refused is_fatal r) old new
read-beside old new w vbn block (Ok x) is = reads-beside _ (looked_read old new is.reads.counts)
read-beside old new w vbn block (Err e) is = reads-beside _ (looked_failed_read old new is.reads.counts)

module _ (home : HomeFields) (old new : Disk) (sound : IsTrue old.honest → HasSoundVolume old.image home) where
  -- blocks are lost still unless the volume has failed
  abbrev StayUnless : Bool → Type 0
  StayUnless fails = fails ≡ false → IsTrue old.honest → HasSoundVolume new.image home → StayLost home old.image new.image

  -- a file that was found is there
  file-there : (f : FileId) → is_missing (store_of old.image home) f ≡ false → IsFile (table_of old.image home) f.number
  file-there f there = (is-there old.image home f there).0

  -- a first header is written
  altered-stay : {T : Type 0} (change : File → File) → ((g : File) → (change g).held ≡ g.held) → (f : FileId) (r : Result T Refusal)
      → OnOk r (Alters change home f old new) → IfErr r (λ e. FailsToAlter false change home f e old new)
      → StayUnless (is_refused is_fatal r)
  altered-stay change leaves f (Ok x) does fails clean honest there =
      all-kept-stay home old.image new.image (sound honest) there
      (λ g. ap (λ (s : Store). held_of (s.file g)) (does.makes honest) ∙ held-changed (store_of old.image home) f.number change leaves g)
      (does.allots honest)
  altered-stay change leaves f (Err e) does fails clean honest there = looked-stay home old new (fails.unchanged clean).looked

  pub altered-beside : {T : Type 0} (change : File → File) → ((g : File) → (change g).held ≡ g.held) → (f : FileId) (r : Result T Refusal)
      → OnOk r (Alters change home f old new) → IfErr r (λ e. FailsToAlter false change home f e old new) → WritesFirstOf f home old new
      → SparesLost false (is_refused is_fatal r) old new
  altered-beside change leaves f r does fails confined =
      confined-beside home _ old new sound (altered-stay change leaves f r does fails) (only_header f.number) []
      (λ honest lbn lost. refl) confined

  -- a block of a file is
  stored-stay : {T : Type 0} (f : FileId) (vbn : ℕ) (block : List ℕ) (r : Result T Refusal) → OnOk r (StoresBlock home f vbn block old new)
      → IfErr r (λ e. FailsToStore false home f vbn block e old new) → StayUnless (is_refused is_fatal r)
  stored-stay f vbn block (Ok x) does fails clean honest there =
      all-kept-stay home old.image new.image (sound honest) there
      (λ g. ap (λ (s : Store). held_of (s.file g)) (does.makes honest)
      ∙ held-changed (store_of old.image home) f.number (with_block vbn block) (λ _. refl) g)
      (does.allots honest)
  stored-stay f vbn block (Err e) does fails clean honest there = looked-stay home old new (fails.unchanged clean).looked

  blocks-none-lost : (f : FileId) → IsTrue old.honest → NoneLost home old.image (blocks_of home f old.image)
  unfolding volume_of
  blocks-none-lost f honest lbn lost = by_missing (is_missing (store_of old.image home) f) refl
    where
      by_missing : (b : Bool) → is_missing (store_of old.image home) f ≡ b → is_in (blocks_of home f old.image) lbn ≡ false
      by_missing true missing =
          ap (λ (b : Bool). is_in (cond b [] (file_blocks (table_of old.image home) f.number)) lbn) missing
      by_missing false there =
          ap (λ (b : Bool). is_in (cond b [] (file_blocks (table_of old.image home) f.number)) lbn) there
          ∙ not-in (file_blocks (table_of old.image home) f.number) lbn (lost.of_none f.number (file-there f there))

  pub stored-beside : {T : Type 0} (f : FileId) (vbn : ℕ) (block : List ℕ) (r : Result T Refusal)
      → OnOk r (StoresBlock home f vbn block old new) → IfErr r (λ e. FailsToStore false home f vbn block e old new)
      → WritesBlocksOf f home old new → SparesLost false (is_refused is_fatal r) old new
  stored-beside f vbn block r does fails confined =
      confined-beside home _ old new sound (stored-stay f vbn block r does fails) no_header (blocks_of home f old.image)
      (blocks-none-lost f) confined

  -- by a window
  pub window-beside : {T : Type 0} (w : Window) (vbn : ℕ) (block : List ℕ) (r : Result T Refusal) → IsOfFile home w old
      → OnOk r (StoresBy home w vbn block old new) → IfErr r (λ e. FailsToStoreBy false home w vbn block e old new)
      → SparesLost false (is_refused is_fatal r) old new
  window-beside {T = T} w vbn block (Ok x) of does fails =
      stored-beside {T = T} of.file vbn block (Ok x) (does.of_file of.file of.is) fails (does.confined of.file of.is)
  window-beside {T = T} w vbn block (Err e) of does fails =
      stored-beside {T = T} of.file vbn block (Err e) does (fails.of_file of.file of.is) (fails.confined of.file of.is)

  -- a file goes
  deleted-stay : {T : Type 0} (f : FileId) (r : Result T Refusal) → OnOk r (Deletes home f old new)
      → IfErr r (λ e. FailsToDelete false home f e old new) → StayUnless (is_refused is_fatal r)
  unfolding volume_of
  deleted-stay f (Ok x) does fails clean honest there =
      gone-stay home old.image new.image (sound honest) there f.number (file-there f (none_first _ _ _ (does.no_cause honest)))
      (λ g away. ap (λ (s : Store). held_of (s.file g)) (does.makes honest) ∙ held-other (store_of old.image home) f.number g None away)
      (ap (λ (s : Store). held_of (s.file f.number)) (does.makes honest) ∙ held-gone (store_of old.image home) f.number)
      (does.allots honest)
  deleted-stay f (Err e) does fails clean honest there = looked-stay home old new (fails.unchanged clean).looked

  pub deleted-beside : {T : Type 0} (f : FileId) (r : Result T Refusal) → OnOk r (Deletes home f old new)
      → IfErr r (λ e. FailsToDelete false home f e old new) → WritesHeadersOf f home old new
      → SparesLost false (is_refused is_fatal r) old new
  deleted-beside f r does fails confined =
      confined-beside home _ old new sound (deleted-stay f r does fails) (is_in (file_named (store_of old.image home) f).held) []
      (λ honest lbn lost. refl) confined

  -- or is cut
  cut-still : (f : FileId) (to : ℕ) (r : Result ℕ Refusal) → IfOk r (λ blocks. (blocks ≡ to) × Cuts home f to old new)
      → IfErr r (λ e. FailsToCut false home f to e old new) → StayUnless (is_refused is_fatal r)
  unfolding volume_of
  cut-still f to (Ok x) does fails clean honest there =
      cut-stay home old.image new.image (sound honest) there f.number to (file-there f (none_first _ _ _ (does.1.no_cause honest)))
      (held-cut (store_of old.image home) (store_of new.image home) f.number to (does.1.makes honest)) (does.1.allots honest)
  cut-still f to (Err e) does fails clean honest there = looked-stay home old new (fails.unchanged clean).looked

  pub cut-beside : (f : FileId) (to : ℕ) (r : Result ℕ Refusal) → IfOk r (λ blocks. (blocks ≡ to) × Cuts home f to old new)
      → IfErr r (λ e. FailsToCut false home f to e old new) → WritesHeadersOf f home old new
      → SparesLost false (is_refused is_fatal r) old new
  cut-beside f to r does fails confined =
      confined-beside home _ old new sound (cut-still f to r does fails) (is_in (file_named (store_of old.image home) f).held) []
      (λ honest lbn lost. refl) confined

  -- file k may get blocks that were free
  more-beside : (k : ℕ) (fails : Bool) → StayUnless fails → WritesMoreOf k home old new → SparesLost false fails old new
  more-beside k fails stay confined =
      confined-beside home fails old new sound stay
      (either (is_in (file_numbered (store_of old.image home) k).held) (new_header (index_of old.image home)))
      (free_list (volume_of old.image home)) (λ honest. free-none-lost home old.image) confined

  -- in one run
  laid-stay : (f : FileId) (n : ℕ) (r : Result ℕ Refusal) → IfOk r (λ blocks. (blocks ≡ n) × LaysOutFile home f n old new)
      → IfErr r (λ e. FailsToLayOut false home f n e old new) → StayUnless (is_refused is_fatal r)
  laid-stay f n (Ok x) does fails clean honest there =
      let made = does.1.makes honest in
      run-stay home old.image new.image (sound honest) there f.number n _
      (λ g away. ap (λ (s : Store). held_of (s.file g)) made.store_is ∙ held-other (store_of old.image home) f.number g _ away)
      (does.1.allots honest).allots
  laid-stay f n (Err e) does fails clean honest there = looked-stay home old new (fails.unchanged clean).looked

  pub laid-beside : (f : FileId) (n : ℕ) (r : Result ℕ Refusal) → IfOk r (λ blocks. (blocks ≡ n) × LaysOutFile home f n old new)
      → IfErr r (λ e. FailsToLayOut false home f n e old new) → WritesMoreOf f.number home old new
      → SparesLost false (is_refused is_fatal r) old new
  laid-beside f n r does fails confined = more-beside f.number _ (laid-stay f n r does fails) confined

  -- as slots
  grown-stay : (n : ℕ) (r : Result ℕ Refusal) → IfOk r (λ slots. IsSlotsAfter home n old slots × GrowsIndexFile home n old new)
      → IfErr r (λ e. FailsToGrow false home n e old new) → StayUnless (is_refused is_fatal r)
  grown-stay n (Ok x) does fails clean honest there =
      index-stay n home old.image new.image (sound honest) there (does.1.makes honest) (does.1.allots honest)
  grown-stay n (Err e) does fails clean honest there = looked-stay home old new (fails.unchanged clean).looked

  pub grown-beside : (n : ℕ) (r : Result ℕ Refusal) → IfOk r (λ slots. IsSlotsAfter home n old slots × GrowsIndexFile home n old new)
      → IfErr r (λ e. FailsToGrow false home n e old new) → WritesMoreOf 1 home old new
      → SparesLost false (is_refused is_fatal r) old new
  grown-beside n r does fails confined = more-beside 1 _ (grown-stay n r does fails) confined

  -- headers were readied first
  readied-stay : (read ready : Disk) (headers n : ℕ) → IsTrue old.honest → read.image ≡ old.image → read.honest ≡ old.honest
      → ReadiesHeaders home headers n read ready → StayLost home old.image ready.image
  readied-stay read ready headers n honest same sure readies =
      let now = subst IsTrue (sym sure) honest in
      subst (λ (i : Image). StayLost home i ready.image) same
      (slots-stay _ home read.image ready.image (subst (λ (i : Image). HasSoundVolume i home) (sym same) (sound honest))
      (readies.sound now) (has-got readies now))

  -- a file is made
  made-stay : (owner : Uic) (protection : ℕ) (ident attr : List ℕ) (r : Result FileId Refusal)
      → IfOk r (λ f. Creates home owner protection ident attr f old new)
      → IfErr r (λ e. FailsToCreate false home owner protection ident attr e old new) → StayUnless (is_refused is_fatal r)
  made-stay owner protection ident attr (Ok f) does fails clean honest there =
      let sure = does.readies.does.writes.went.honest ∙ honest in
      stay-then home old.image does.ready.image new.image (readied-stay old does.ready 1 0 honest refl refl does.readies)
      (entered-stay home does.ready.image new.image (does.readies.sound honest) there owner protection ident attr
      (none_first _ _ _ (does.enters.does.no_cause sure)) (does.enters.does.makes sure) (does.enters.does.allots sure).allots)
  made-stay owner protection ident attr (Err e) does fails clean honest there = looked-stay home old new (fails.unchanged clean).looked

  pub made-beside : (owner : Uic) (protection : ℕ) (ident attr : List ℕ) (r : Result FileId Refusal)
      → IfOk r (λ f. Creates home owner protection ident attr f old new)
      → IfErr r (λ e. FailsToCreate false home owner protection ident attr e old new)
      → WritesAfterSlots 1 (WritesNewHeaders home) home old new → SparesLost false (is_refused is_fatal r) old new
  made-beside owner protection ident attr r does fails after =
      after-beside home 1 (WritesNewHeaders home) _ old new sound (made-stay owner protection ident attr r does fails)
      (λ ready there confined.
      confined-beside home true ready new (λ _. there) (λ is. absurd (false≢true (sym is))) (new_header (index_of ready.image home)) []
      (λ honest lbn lost. refl) confined) after

  -- a file is extended
  extended-stay : (f : FileId) (n : ℕ) (r : Result ℕ Refusal)
      → IfOk r (λ blocks. IsLengthAfter home f n old blocks × ExtendsFile home f n old new)
      → IfErr r (λ e. FailsToExtend false home f n e old new)
      → StayUnless (is_refused is_fatal r)
  extended-stay f n (Ok x) does fails clean honest there =
      let e = does.1 in
      let sure = e.reads.looked.honest ∙ honest in
      let surely = e.readies.does.writes.went.honest ∙ sure in
      stay-then home old.image e.ready.image new.image
      (readied-stay e.read e.ready (headers_for home f n old) n honest e.reads.looked.image e.reads.looked.honest e.readies)
      (gained-stay home e.ready.image new.image (e.readies.sound sure) there f.number n _
      (held-grown (store_of e.ready.image home) (store_of new.image home) f.number n _ (e.extends.makes surely))
      (e.extends.allots surely).allots)
  extended-stay f n (Err e) does fails clean honest there = looked-stay home old new (fails.unchanged clean).looked

  pub extended-beside : (f : FileId) (n : ℕ) (r : Result ℕ Refusal)
      → IfOk r (λ blocks. IsLengthAfter home f n old blocks × ExtendsFile home f n old new)
      → IfErr r (λ e. FailsToExtend false home f n e old new)
      → WritesAfterSlots (headers_for home f n old) (WritesMoreOf f.number home) home old new
      → SparesLost false (is_refused is_fatal r) old new
  extended-beside f n r does fails after =
      after-beside home (headers_for home f n old) (WritesMoreOf f.number home) _ old new sound (extended-stay f n r does fails)
      (λ ready there confined.
      confined-beside home true ready new (λ _. there) (λ is. absurd (false≢true (sym is)))
      (either (is_in (file_numbered (store_of ready.image home) f.number).held) (new_header (index_of ready.image home)))
      (free_list (volume_of ready.image home)) (λ honest. free-none-lost home ready.image) confined) after
