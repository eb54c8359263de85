-- The environment of the program where none is handed in.
use Rattle.std.specs.Prelude.{codes, [], ◌∷◌}
use Rattle.pep_marker.specs.Environment.{EnvironmentParts, environment_of}

-- CPython 3.9.18 on a machine with Linux and an x86-64 processor, and no extra
abbrev pub standard_environment : EnvironmentParts
standard_environment =
    environment_of
    ((codes "os_name", codes "posix") ∷ (codes "sys_platform", codes "linux")
    ∷ (codes "platform_machine", codes "x86_64")
    ∷ (codes "platform_python_implementation", codes "CPython")
    ∷ (codes "platform_release", codes "6.1.0-18-amd64")
    ∷ (codes "platform_system", codes "Linux") ∷ (codes "platform_version", codes "#1 SMP")
    ∷ (codes "python_version", codes "3.9") ∷ (codes "python_full_version", codes "3.9.18")
    ∷ (codes "implementation_name", codes "cpython")
    ∷ (codes "implementation_version", codes "3.9.18") ∷ [])
