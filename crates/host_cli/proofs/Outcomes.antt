-- What becomes of one more connection.
use Rattle.std.proofs.Common.{◌≡◌, ◌≢◌, ◌⊎◌, ℕ, List, [], ◌∷◌, ◌++◌, Option, inl, inr, ap, sym, ◌∙◌, refl}
use Rattle.std.proofs.lemmas.List.{append-nil}
use Rattle.outside.specs.Streams.{Rose}
use Rattle.connections.specs.Door.{Accepted, Accepts, fresh}
use Rattle.connections.proofs.Ends.{SameEnd, same_end}
use Rattle.folders.specs.declared.folder.Held.{Held}
use Rattle.http_plain.specs.declared.demand.Demand.TheVariants.{File}
use Rattle.plain_host.specs.declared.fault.ServeFault.{ServeFault}
use Rattle.plain_host.specs.declared.fault.ServeFault.TheVariants.{ReadFault, WriteFault, FolderFault}
use Rattle.plain_host.specs.Connection.{AsksFile, Serving, SendsNothing, ServesLast, ServesPart}
use Rattle.host_cli.specs.Run.{AcceptsAsking, HostsOne, HasPart, HasAnswer}

-- a connection of which so much is left, and on which this was sent
abbrev connection_of : List ℕ → List ℕ → List ℕ → Accepted
connection_of request left sent = record { request = request; left = left; sent = sent }

-- the connection that was accepted last is the one that is served
pub record Goes (old new : List Accepted) (request left taken sent : List ℕ) : Type 0 where
  pub after : new ≡ old ++ connection_of request left sent ∷ []
  pub split : request ≡ taken ++ left

goes_on : (old mid new : List Accepted) (taken sent : List ℕ) → Accepts old mid → (s : Serving mid new taken sent) → Goes old new s.last.left s.left taken sent
goes_on old mid new taken sent a s =
    let same : SameEnd s.earlier old s.last (fresh a.request) = same_end s.earlier old s.last (fresh a.request) (sym s.before ∙ a.made) in
    let whole : s.last.left ≡ a.request = ap (λ (c : Accepted). c.left) same.last in
    record {
      after =
          s.after
          ∙ ap (λ (e : List Accepted). e ++ record s.last { left = s.left; sent = s.last.sent ++ sent } ∷ []) same.earlier
          ∙ ap (λ (c : Accepted). old ++ record c { left = s.left; sent = c.sent ++ sent } ∷ []) same.last
          ∙ ap (λ (r : List ℕ). old ++ connection_of r s.left sent ∷ []) (sym whole);
      split = s.split;
    }

-- it asks for a file, and nothing was sent on it
pub accepts_asking : (old mid new : List Accepted) → Accepts old mid → AsksFile mid new → AcceptsAsking old new
accepts_asking old mid new a s =
    let goes = goes_on old mid new s.front [] a s.taken in
    record {
      connection = connection_of s.taken.last.left s.taken.left [];
      after = goes.after;
      unsent = refl;
      asks = record { demand = File s.name s.whole; asks = s.asks; file = record { name = s.name; whole = s.whole; is = refl } };
      heard = record { front = s.front; heard = goes.split; few = s.few; near = s.near };
    }

module _ (files : List Held) (old mid new : List Accepted) (door_old door_new folder_old folder_new : ℕ) (a : Accepts old mid) where
  -- it was answered
  pub hosts_served : (code : Option ℕ) → ServesLast files mid new code → HostsOne files old new door_old door_new folder_old folder_new
  hosts_served code s =
      let goes = goes_on old mid new s.front s.bytes a s.sent in
      let connection : Accepted = connection_of s.sent.last.left s.sent.left s.bytes in
      let served : HasAnswer files connection = record { front = s.front; heard = goes.split; enough = s.enough; code = code; serves = s.serves } in
      let part : HasPart files connection = record {
        front = s.front;
        heard = goes.split;
        enough = s.enough;
        answer = record { code = code; bytes = s.bytes };
        rest = [];
        part = sym (append-nil s.bytes);
        serves = s.serves;
      } in
      record {
        connection = connection;
        after = goes.after;
        fate = inl served;
        begun = inr part;
        heard = record { front = s.front; heard = goes.split; few = s.few; near = s.near };
      }

  -- a first part of its answer was sent
  pub hosts_part : Rose door_old door_new → ServesPart files mid new → HostsOne files old new door_old door_new folder_old folder_new
  hosts_part rose s =
      let goes = goes_on old mid new s.front s.done a s.sent in
      let connection : Accepted = connection_of s.sent.last.left s.sent.left s.done in
      let part : HasPart files connection = record {
        front = s.front;
        heard = goes.split;
        enough = s.enough;
        answer = s.answer;
        rest = s.rest;
        part = s.given;
        serves = s.serves;
      } in
      record {
        connection = connection;
        after = goes.after;
        fate = inr (inl rose);
        begun = inr part;
        heard = record { front = s.front; heard = goes.split; few = s.few; near = s.near };
      }

  -- nothing was sent on it
  pub hosts_nothing : Rose door_old door_new ⊎ Rose folder_old folder_new → SendsNothing mid new → HostsOne files old new door_old door_new folder_old folder_new
  hosts_nothing rose s =
      let goes = goes_on old mid new s.front [] a s.taken in
      record {
        connection = connection_of s.taken.last.left s.taken.left [];
        after = goes.after;
        fate = inr rose;
        begun = inl refl;
        heard = record { front = s.front; heard = goes.split; few = s.few; near = s.near };
      }

-- ---- faults other than `WriteFault`

pub read_other : (fault : ServeFault) → fault ≡ ReadFault → fault ≢ WriteFault
read_other fault is same = let clash : ReadFault ≡ WriteFault = sym is ∙ same in cc

pub folder_other : (fault : ServeFault) → fault ≡ FolderFault → fault ≢ WriteFault
folder_other fault is same = let clash : FolderFault ≡ WriteFault = sym is ∙ same in cc
