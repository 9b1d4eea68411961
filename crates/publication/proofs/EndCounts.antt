-- What the folder's count of faults did, by how a publish ends.
use Rattle.std.proofs.Common.{◌≡◌, ◌≢◌, ℕ, true, false, List, Result, Ok, Err, refl, sym, subst, ◌∙◌}
use Rattle.outside.specs.Streams.{Rose}
use Rattle.publisher.specs.declared.fault.PublishFault.{PublishFault}
use Rattle.publisher.specs.declared.fault.PublishFault.TheVariants as fault
use Rattle.publisher.specs.declared.published.Published.{Published}
use Rattle.publisher.specs.Faults.{FaultsCounted}
use Rattle.publication.specs.declared.publication.PublishEnd.{PublishEnd}
use Rattle.publication.specs.declared.publication.PublishEnd.TheVariants as ends
use Rattle.publication.specs.Lines.{end_of_publish, end_of_fault, has_line}
use Rattle.publication.specs.Publication.{EndsWith}

pub read_rose : {K : Type 0} → (tells : Type 0) (taken : K → List ℕ) (old new : K) (result : Result Published PublishFault) (end : PublishEnd) (a b : ℕ)
    → EndsWith tells taken old new result end → FaultsCounted a b result → end ≡ ends.ReadFault → Rose a b
read_rose tells taken old new result end a b ended counted is =
    rose result (subst (EndsWith tells taken old new result) is ended).0 counted
  where
    fault_rose : (e : PublishFault) → end_of_fault e ≡ ends.ReadFault → (e ≡ fault.ReadFault → Rose a b) → Rose a b
    fault_rose fault.ReadFault same h = h refl
    fault_rose e same h = absurd cc

    rose : (r : Result Published PublishFault) → end_of_publish r ≡ ends.ReadFault → FaultsCounted a b r → Rose a b
    rose (Ok p) same h = absurd cc
    rose (Err e) same h = fault_rose e same h.read

pub write_rose : {K : Type 0} → (tells : Type 0) (taken : K → List ℕ) (old new : K) (result : Result Published PublishFault) (end : PublishEnd) (a b : ℕ)
    → EndsWith tells taken old new result end → FaultsCounted a b result → end ≡ ends.WriteFault → Rose a b
write_rose tells taken old new result end a b ended counted is =
    rose result (subst (EndsWith tells taken old new result) is ended).0 counted
  where
    fault_rose : (e : PublishFault) → end_of_fault e ≡ ends.WriteFault → (e ≡ fault.WriteFault → Rose a b) → Rose a b
    fault_rose fault.WriteFault same h = h refl
    fault_rose e same h = absurd cc

    rose : (r : Result Published PublishFault) → end_of_publish r ≡ ends.WriteFault → FaultsCounted a b r → Rose a b
    rose (Ok p) same h = absurd cc
    rose (Err e) same h = fault_rose e same h.write

-- neither fault of the folder came
quiet_fault : (e : PublishFault) (a b : ℕ) → end_of_fault e ≢ ends.ReadFault → end_of_fault e ≢ ends.WriteFault → (e ≢ fault.ReadFault → e ≢ fault.WriteFault → b ≡ a) → b ≡ a
quiet_fault fault.ReadFault a b other _ h = absurd (other refl)
quiet_fault fault.WriteFault a b _ other h = absurd (other refl)
quiet_fault e a b _ _ h = h (λ is. absurd cc) (λ is. absurd cc)

quiet_result : (r : Result Published PublishFault) (a b : ℕ) → end_of_publish r ≢ ends.ReadFault → end_of_publish r ≢ ends.WriteFault → FaultsCounted a b r → b ≡ a
quiet_result (Ok p) a b read write h = h.quiet
quiet_result (Err e) a b read write h = quiet_fault e a b read write h.others

other_end : (end one other : PublishEnd) → end ≡ one → (one ≡ other → ⊥) → end ≢ other
other_end end one other is differ same = differ (sym is ∙ same)

lined : (end other : PublishEnd) → has_line end ≡ true → has_line other ≡ false → end ≢ other
lined end other said silent same = absurd (let both : has_line other ≡ true = subst (λ (x : PublishEnd). has_line x ≡ true) same said in cc)

pub folder_quiet : {K : Type 0} → (tells : Type 0) (taken : K → List ℕ) (old new : K) (result : Result Published PublishFault) (end : PublishEnd) (a b : ℕ)
    → EndsWith tells taken old new result end → FaultsCounted a b result → end ≢ ends.ReadFault → end ≢ ends.WriteFault → b ≡ a
folder_quiet tells taken old new result ends.Done a b ended counted read write =
    quiet_result result a b (other_end (end_of_publish result) ends.Done ends.ReadFault ended.0 (λ same. cc)) (other_end (end_of_publish result) ends.Done ends.WriteFault ended.0 (λ same. cc)) counted
folder_quiet tells taken old new result ends.Refused a b ended counted read write =
    quiet_result result a b (other_end (end_of_publish result) ends.Refused ends.ReadFault ended.0 (λ same. cc)) (other_end (end_of_publish result) ends.Refused ends.WriteFault ended.0 (λ same. cc)) counted
folder_quiet tells taken old new result ends.ReadFault a b ended counted read write = absurd (read refl)
folder_quiet tells taken old new result ends.WriteFault a b ended counted read write = absurd (write refl)
folder_quiet tells taken old new result ends.SinkFault a b ended counted read write =
    quiet_result result a b (lined (end_of_publish result) ends.ReadFault ended.0 refl) (lined (end_of_publish result) ends.WriteFault ended.0 refl) counted
folder_quiet tells taken old new result ends.Memory a b ended counted read write = quiet_result result a b ended.0 ended.1 counted
