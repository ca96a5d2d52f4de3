-- What is written for an answer, and what a failed write leaves.
use Rattle.std.specs.Prelude.{ℕ, ◌≡◌, ◌⊎◌, List, Option}
use Rattle.co_base.specs.Outside.{HasRisen, Takes, TakesFront}
use Rattle.corun_top.specs.declared.status.Status.{Status}
use Rattle.corun_top.specs.declared.status.Status.TheVariants.{SinkFault}

-- a sink as contracts see it: what it has taken, where it tells, and how many of its writes have failed
pub record Tape : Type 0 where
  pub taken : Option (List ℕ)
  pub faults : ℕ

-- the text was written whole, and no write failed
pub record Gained (text : List ℕ) (old new : Tape) : Type 0 where
  pub whole : Takes old.taken text new.taken
  pub faultless : new.faults ≡ old.faults

-- a write failed: the beginning of the text was written, and the count of faults has risen
pub record Broke (text : List ℕ) (old new : Tape) : Type 0 where
  pub front : TakesFront old.taken text new.taken
  pub risen : HasRisen old.faults new.faults

-- both texts were written whole, the first of them first, and the answer is this status
pub record Whole (status : Status) (out_text err_text : List ℕ) (out out' err err' : Tape) (result : Status) : Type 0 where
  pub answer : result ≡ status
  pub out_gained : Gained out_text out out'
  pub err_gained : Gained err_text err err'

-- a write to the first sink failed, and nothing was written after it
pub record OutBroke (out_text : List ℕ) (out out' err err' : Tape) (result : Status) : Type 0 where
  pub answer : result ≡ SinkFault
  pub broke : Broke out_text out out'
  pub nothing : err' ≡ err

-- a write to the second sink failed
pub record ErrBroke (out_text err_text : List ℕ) (out out' err err' : Tape) (result : Status) : Type 0 where
  pub answer : result ≡ SinkFault
  pub out_gained : Gained out_text out out'
  pub broke : Broke err_text err err'

abbrev pub IsWritten : Status → List ℕ → List ℕ → Tape → Tape → Tape → Tape → Status → Type 0
IsWritten status out_text err_text out out' err err' result =
    Whole status out_text err_text out out' err err' result ⊎ OutBroke out_text out out' err err' result ⊎ ErrBroke out_text err_text out out' err err' result
