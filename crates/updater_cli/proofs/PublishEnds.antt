-- How a publish ends, by its status.
use Rattle.std.proofs.Common.{◌≡◌, ◌⊎◌, ℕ, inl, inr, refl, arith}
use Rattle.outside.specs.Streams.{Rose}
use Rattle.outside.specs.declared.sink.Sink.{Ghosts as SinkGhosts}
use Rattle.folders.specs.declared.folder.Folder.{Ghosts as FolderGhosts}
use Rattle.publish_plan.specs.declared.options.Options.{Options}
use Rattle.publication.specs.declared.publication.PublishEnd.{PublishEnd}
use Rattle.publication.specs.declared.publication.PublishEnd.TheVariants.{Done, ReadFault, WriteFault, SinkFault, Memory, Refused}
use Rattle.publication.specs.Publication.{PublishesOptions, status_of}
use Rattle.updater_cli.specs.Requests.{PublishesBy}

is_read : (end : PublishEnd) → status_of end ≡ 2 → end ≡ ReadFault
is_read ReadFault is = refl
is_read Done is = absurd (omega arith)
is_read WriteFault is = absurd (omega arith)
is_read SinkFault is = absurd (omega arith)
is_read Memory is = absurd (omega arith)
is_read Refused is = absurd (omega arith)

is_fault : (end : PublishEnd) → status_of end ≡ 3 → (end ≡ WriteFault) ⊎ (end ≡ SinkFault)
is_fault WriteFault is = inl refl
is_fault SinkFault is = inr refl
is_fault Done is = absurd (omega arith)
is_fault ReadFault is = absurd (omega arith)
is_fault Memory is = absurd (omega arith)
is_fault Refused is = absurd (omega arith)

codes : (end : PublishEnd) → (status_of end ≡ 0) ⊎ ((status_of end ≡ 7) ⊎ ((status_of end ≡ 2) ⊎ ((status_of end ≡ 3) ⊎ (status_of end ≡ 6))))
codes Done = inl refl
codes Refused = inr (inl refl)
codes ReadFault = inr (inr (inl refl))
codes WriteFault = inr (inr (inr (inl refl)))
codes SinkFault = inr (inr (inr (inl refl)))
codes Memory = inr (inr (inr (inr refl)))

module _ {F K : Type 0} (folder : FolderGhosts F) (to : SinkGhosts K) (options : Options) (folder_old folder_new : F) (sink_old sink : K) where
  -- the options were read
  pub publishes : (end : PublishEnd) → PublishesOptions folder to options folder_old folder_new sink_old sink end
      → (end ≡ ReadFault → Rose (folder.count folder_old) (folder.count folder_new)) → (end ≡ WriteFault → Rose (folder.count folder_old) (folder.count folder_new)) → (end ≡ SinkFault → Rose (to.count sink_old) (to.count sink))
      → (status : ℕ) → status ≡ status_of end → PublishesBy folder to options status folder_old folder_new sink_old sink
  publishes end done read write sunk status is = rw is (record {
    end = end;
    code = refl;
    done = inl done;
    sink_fault = sunk;
    read_fault = λ two. read (is_read end two);
    fault = λ three. by (is_fault end three);
    statuses = codes end;
  })
    where
      by : (end ≡ WriteFault) ⊎ (end ≡ SinkFault) → Rose (folder.count folder_old) (folder.count folder_new) ⊎ Rose (to.count sink_old) (to.count sink)
      by (inl fault) = inl (write fault)
      by (inr fault) = inr (sunk fault)

-- there was no memory for them
pub publishes_nothing : {F K : Type 0} (folder : FolderGhosts F) (to : SinkGhosts K) (options : Options) (folder_old : F) (sink_old : K) (status : ℕ) → status ≡ 6 → PublishesBy folder to options status folder_old folder_old sink_old sink_old
publishes_nothing folder to options folder_old sink_old status is = rw is (record {
  end = Memory;
  code = refl;
  done = inr (refl, refl, refl);
  sink_fault = λ fault. absurd (cc (fault));
  read_fault = λ two. absurd (omega arith);
  fault = λ three. absurd (omega arith);
  statuses = inr (inr (inr (inr refl)));
})
