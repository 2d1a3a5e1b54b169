-- One request: what it may answer, and the store and the block after it (profile).
use Rattle.std.specs.Prelude.{◌≡◌, ℕ, ◌+◌, ◌-◌, ◌==◌, Bool, true, false, not, List, [], Option, Some, None, Result, Ok, Err, slice_index_or}
use Rattle.f11_store.specs.declared.callers.Uic.{Uic}
use Rattle.f11_store.specs.declared.files.FileId.{FileId}
use Rattle.f11_store.specs.declared.files.Attr.{Attr}
use Rattle.f11_store.specs.declared.refusals.Refusal.{Refusal}
use Rattle.f11_store.specs.declared.refusals.Refusal.TheVariants.{NoMemory, NoRun}
use Rattle.f11_store.specs.declared.requests.Request.{Request}
use Rattle.f11_store.specs.declared.requests.Request.TheVariants as request
use Rattle.f11_store.specs.declared.requests.Reply.{Reply}
use Rattle.f11_store.specs.declared.requests.Reply.TheVariants as reply
use Rattle.f11_store.specs.File.{File, length_of, need}
use Rattle.f11_store.specs.Store.{Store, file_named, file_held, free_headers, least_free}
use Rattle.f11_store.specs.Directory.{record_of, record_id}
use Rattle.f11_store.specs.Causes.{first_refusal}
use Rattle.f11_store.specs.Changes.{Changes, next_sequence, with_slots_first}
use Rattle.f11_store.specs.Headroom.{slots_first, headers_to_enter}

-- the attributes of a file
abbrev pub attributes_of : File → Attr
attributes_of f = record {
  owner = f.owner;
  protection = f.protection;
  characteristics = f.characteristics;
  ident = f.ident;
  attr = f.attr;
}

-- the identification that the next file to be created gets
abbrev pub next_id : Store → FileId
next_id s = record { number = least_free s; sequence = next_sequence (s.last (least_free s)); volume = 0 }

-- the reply to a request that is served
abbrev pub reply_of : Store → ℕ → Request → Reply
reply_of s task (request.Create _ _ _) = reply.Created (next_id (with_slots_first s 1))
reply_of s task (request.Extend lun n) = reply.Length (length_of (file_held s task lun) + n)
reply_of s task (request.Contiguous lun n) = reply.Length n
reply_of s task (request.Truncate lun to) = reply.Length to
reply_of s task (request.Delete id) = reply.Done
reply_of s task (request.GrowIndex n) = reply.Slots (s.slots + n)
reply_of s task (request.Access id m lun) = reply.Done
reply_of s task (request.Deaccess lun) = reply.Done
reply_of s task request.Release = reply.Done
reply_of s task (request.ReadBlock lun vbn) = reply.Done
reply_of s task (request.WriteBlock lun vbn) = reply.Done
reply_of s task (request.Find d name) = reply.Found (record_id (record_of name (file_named s d)))
reply_of s task (request.Enter d name id) = reply.Done
reply_of s task (request.Remove d name) = reply.Done
reply_of s task (request.ReadAttr id) = reply.Attr (attributes_of (file_named s id))
reply_of s task (request.WriteAttr id c) = reply.Done
reply_of s task request.Space = reply.Space s.free (free_headers s) s.slots

-- block number vbn, from 1, of a file
abbrev pub block_at : File → ℕ → List ℕ
block_at f vbn = slice_index_or f.blocks (vbn - 1) []

-- the caller's block after a request that is served: ReadBlock fills it
abbrev pub block_after : Store → ℕ → Request → List ℕ → List ℕ
block_after s task (request.ReadBlock lun vbn) block = block_at (file_held s task lun) vbn
block_after s task _ block = block

-- the index file grows by that many slots, for which memory is taken
abbrev pub gets_slots : ℕ → Bool
gets_slots n = not (n == 0)

-- the request may want memory: it is that the index file grows, or it does first
abbrev pub may_want_memory : Store → ℕ → Request → Bool
may_want_memory s task (request.GrowIndex _) = true
may_want_memory s task (request.Create _ _ _) = gets_slots (slots_first s 1)
may_want_memory s task (request.Extend lun n) = gets_slots (slots_first s (need (file_held s task lun).room n))
may_want_memory s task (request.Enter d _ _) = gets_slots (slots_first s (headers_to_enter (file_named s d)))
may_want_memory s task _ = false

-- the request asks for blocks in one run: whether so many free ones follow one another anywhere, the store doesn't know
abbrev pub asks_for_run : Request → Bool
asks_for_run (request.Contiguous _ _) = true
asks_for_run _ = false

-- the refusal may be the answer: the first one whose cause holds; where none does, want of memory if the request takes any, or of a run of
-- free blocks if it asks for one
abbrev pub MayRefuse : Option Refusal → Bool → Bool → Refusal → Type 0
MayRefuse (Some first) _ _ r = r ≡ first
MayRefuse None true _ r = r ≡ NoMemory
MayRefuse None false true r = r ≡ NoRun
MayRefuse None false false r = ⊥

-- the request is refused, and changes nothing
pub record Refuses (s : Store) (task : ℕ) (caller : Uic) (r : Request) (block : List ℕ) (refusal : Refusal) (s' : Store)
    (block' : List ℕ) : Type 0 where
  pub may_refuse : MayRefuse (first_refusal s task caller r) (may_want_memory s task r) (asks_for_run r) refusal
  pub store_stays : s' ≡ s
  pub block_stays : block' ≡ block

-- the request is served, since no cause against it holds
pub record Serves (s : Store) (task : ℕ) (caller : Uic) (r : Request) (block : List ℕ) (reply : Reply) (s' : Store)
    (block' : List ℕ) : Type 0 where
  pub no_cause : first_refusal s task caller r ≡ None
  pub reply_is : reply ≡ reply_of s task r
  pub changes : Changes s task caller r block s'
  pub block_is : block' ≡ block_after s task r block

-- one request of a task for a caller, with the answer, and the store and the block before and after
abbrev pub Step : Store → ℕ → Uic → Request → List ℕ → Result Reply Refusal → Store → List ℕ → Type 0
Step s task caller r block (Ok reply) s' block' = Serves s task caller r block reply s' block'
Step s task caller r block (Err refusal) s' block' = Refuses s task caller r block refusal s' block'
