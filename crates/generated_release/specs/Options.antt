-- The three releases, and how they are published.
use Rattle.std.specs.Prelude.{ℕ, true, List, [], codes, None}
use Rattle.identity.specs.declared.key.Key.{Key}
use Rattle.identity.specs.declared.version.Version.{Version}
use Rattle.manifests.specs.declared.facts.Rule.TheVariants.{Never}
use Rattle.publish_plan.specs.declared.options.Options.{Options}
use Rattle.publisher.specs.Publication.{deployment_key}
use Rattle.generated_release.specs.declared.release.GeneratedRelease.{GeneratedRelease}
use Rattle.generated_release.specs.declared.release.GeneratedRelease.TheVariants.{One, Two, Three}

-- its number, which is the first of its version and that of its view
abbrev pub number_of : GeneratedRelease → ℕ
number_of One = 1
number_of Two = 2
number_of Three = 3

abbrev pub version_of : GeneratedRelease → Version
version_of release = record { a = number_of release; b = 0; c = 0; d = 0 }

-- the folder that it is published in
abbrev pub folder_of : GeneratedRelease → List ℕ
folder_of One = codes "one"
folder_of Two = codes "two"
folder_of Three = codes "three"

-- the address that it is installed from
abbrev pub url_of : GeneratedRelease → List ℕ
url_of One = codes "http://demo.test/one/demo.application"
url_of Two = codes "http://demo.test/two/demo.application"
url_of Three = codes "http://demo.test/three/demo.application"

-- the name of what is published, which is that of its publisher too
abbrev pub name_text : List ℕ
name_text = codes "demo"

-- no minimum, no checks, no provider and no marks, with `.deploy`
abbrev pub options_of : GeneratedRelease → Options
options_of release = record {
  name = name_text;
  version = version_of release;
  entry = codes "f000.txt";
  from = codes "in";
  to = folder_of release;
  publisher = name_text;
  minimum = None;
  rule = Never;
  provider = None;
  mapped = true;
  marks = [];
}

-- the key of the application, which is that of each release
abbrev pub demo_key : Key
demo_key = deployment_key (options_of One)

-- the names of the two manifests of a release, as the options make them
abbrev pub deployment_at : GeneratedRelease → List ℕ
deployment_at One = codes "one/demo.application"
deployment_at Two = codes "two/demo.application"
deployment_at Three = codes "three/demo.application"

abbrev pub application_at : GeneratedRelease → List ℕ
application_at One = codes "one/Application Files/demo_1_0_0_0/f000.txt.manifest"
application_at Two = codes "two/Application Files/demo_2_0_0_0/f000.txt.manifest"
application_at Three = codes "three/Application Files/demo_3_0_0_0/f000.txt.manifest"
