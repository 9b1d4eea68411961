-- Reading manifests, from the left. The fault of a part is the first of its fields that cannot be
-- read.
use Rattle.std.specs.Prelude.{Ok}
use Rattle.std.specs.Int.{w64}
use Rattle.small_types.specs.declared.limits.TheConstants.{FILE_COUNT_LIMIT, NAME_LIMIT, URL_LIMIT}
use Rattle.small_types.specs.Outcome.{◌>>=◌}
use Rattle.manifests.specs.declared.facts.Application.{Application}
use Rattle.manifests.specs.declared.facts.Deployment.{Deployment}
use Rattle.manifests.specs.declared.facts.FileEntry.{FileEntry}
use Rattle.record_fields.specs.declared.deployment_readers.Terms.{Terms}
use Rattle.record_fields.specs.declared.deployment_readers.Listed.{Listed}
use Rattle.record_fields.specs.Readers.{number_at, text_at, version_at}
use Rattle.record_fields.specs.Parts.{Reader, digests_at, identity_at, list_at, name_at, option_at, rule_at, truth_at}

unfoldable pub entry_at : Reader FileEntry
entry_at bytes place = do
  name ← name_at bytes place
  size ← number_at w64 bytes name.1
  list ← digests_at bytes size.1
  group ← option_at (text_at NAME_LIMIT) bytes list.1
  local ← truth_at bytes group.1
  Ok (
    record {
      name = name.0;
      size = size.0;
      list = list.0;
      group = group.0;
      local = local.0;
    },
    local.1,
  )

-- what comes before the codebase
unfoldable pub terms_at : Reader Terms
terms_at bytes place = do
  identity ← identity_at bytes place
  install ← truth_at bytes identity.1
  minimum ← option_at version_at bytes install.1
  mapped ← truth_at bytes minimum.1
  rule ← rule_at bytes mapped.1
  provider ← option_at (text_at URL_LIMIT) bytes rule.1
  Ok (
    record {
      identity = identity.0;
      install = install.0;
      minimum = minimum.0;
      mapped = mapped.0;
      rule = rule.0;
      provider = provider.0;
    },
    provider.1,
  )

-- what comes from the codebase on
unfoldable pub listed_at : Reader Listed
listed_at bytes place = do
  codebase ← text_at URL_LIMIT bytes place
  app ← identity_at bytes codebase.1
  app_size ← number_at w64 bytes app.1
  app_list ← digests_at bytes app_size.1
  Ok (
    record {
      codebase = codebase.0;
      app = app.0;
      app_size = app_size.0;
      app_list = app_list.0;
    },
    app_list.1,
  )

abbrev pub joined : Terms → Listed → Deployment
joined t l = record {
  identity = t.identity;
  install = t.install;
  minimum = t.minimum;
  mapped = t.mapped;
  rule = t.rule;
  provider = t.provider;
  codebase = l.codebase;
  app = l.app;
  app_size = l.app_size;
  app_list = l.app_list;
}

unfoldable pub deployment_at : Reader Deployment
deployment_at bytes place = do
  terms ← terms_at bytes place
  listed ← listed_at bytes terms.1
  Ok (joined terms.0 listed.0, listed.1)

unfoldable pub application_at : Reader Application
application_at bytes place = do
  identity ← identity_at bytes place
  entry ← text_at NAME_LIMIT bytes identity.1
  parameters ← text_at URL_LIMIT bytes entry.1
  files ← list_at FILE_COUNT_LIMIT entry_at bytes parameters.1
  Ok (
    record {
      identity = identity.0;
      entry = entry.0;
      parameters = parameters.0;
      files = files.0;
    },
    files.1,
  )
