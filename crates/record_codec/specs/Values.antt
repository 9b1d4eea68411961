-- Which views, files and changes have an encoding: their texts and lists are within their limits,
-- and their numbers within their widths.
use Rattle.std.specs.Prelude.{◌<◌, ◌≤◌, ◌^◌, ℕ, List, All, IfSome, Option, length}
use Rattle.small_types.specs.declared.limits.TheConstants.{FILE_COUNT_LIMIT, NAME_LIMIT}
use Rattle.small_types.specs.declared.target.Target.{Target}
use Rattle.small_types.specs.Name.{IsName}
use Rattle.small_types.specs.Short.{IsShort, IsTarget}
use Rattle.identity.specs.declared.key.Key.{Key}
use Rattle.identity.specs.declared.version.Version.{Version}
use Rattle.identity.specs.Key.{IsShortKey}
use Rattle.identity.specs.Version.{IsVersion}
use Rattle.store_state.specs.declared.view.Content.{Content}
use Rattle.store_state.specs.declared.view.LocalFile.{LocalFile}
use Rattle.store_state.specs.declared.view.View.{View}
use Rattle.record_codec.specs.declared.numbers.TheConstants.{COUNT_LIMIT}
use Rattle.record_fields.specs.Values.{AreDigests, IsEncodableApplication, IsEncodableDeployment}

-- a number that four bytes can say
abbrev pub IsBlock : ℕ → Type 0
IsBlock block = block < 2 ^ 32

-- with as many blocks as four bytes can count, whatever its size
pub record IsEncodableContent (c : Content) : Type 0 where
  pub size : c.size < 2 ^ 64
  pub list : AreDigests c.list
  pub few_blocks : length c.held ≤ COUNT_LIMIT
  pub blocks : All IsBlock c.held

-- with as many blocks as four bytes can count, whatever its length
pub record IsEncodableLocal (f : LocalFile) : Type 0 where
  pub name : IsName f.name
  pub size : f.length < 2 ^ 64
  pub few_blocks : length f.held ≤ COUNT_LIMIT
  pub blocks : All IsBlock f.held

-- with at most so many groups, and so many data files
pub record IsEncodableView (most : ℕ) (v : View) : Type 0 where
  pub number : v.number < 2 ^ 64
  pub deployment : IsEncodableDeployment v.deployment
  pub application : IsEncodableApplication v.application
  pub base : IsTarget v.base
  pub few_groups : length v.groups ≤ most
  pub groups : All (IsShort NAME_LIMIT) v.groups
  pub few_locals : length v.locals ≤ most
  pub locals : All IsEncodableLocal v.locals

pub record IsEncodableInstall (v : View) (brought : List Content) (from : Target) (moment : ℕ)
    : Type 0 where
  pub view : IsEncodableView FILE_COUNT_LIMIT v
  pub few : length brought ≤ FILE_COUNT_LIMIT
  pub contents : All IsEncodableContent brought
  pub provider : IsTarget from
  pub now : moment < 2 ^ 64

-- what a check heard
pub record IsEncodableCheck (k : Key) (v : Version) (least : Option Version) (moment : ℕ)
    : Type 0 where
  pub key : IsShortKey k
  pub version : IsVersion v
  pub minimum : IfSome least IsVersion
  pub now : moment < 2 ^ 64

-- a group that comes to the view of that number; its name may be empty, as any text
pub record IsEncodableGroup (number : ℕ) (name : List ℕ) (brought : List Content) : Type 0 where
  pub view : number < 2 ^ 64
  pub group : IsShort NAME_LIMIT name
  pub few : length brought ≤ FILE_COUNT_LIMIT
  pub contents : All IsEncodableContent brought
