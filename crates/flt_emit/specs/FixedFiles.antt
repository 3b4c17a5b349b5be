-- The parts of the writer's header and of the file for the installation that are the same for all filters. Source: the samples of
-- the driver kit.
use Rattle.std.specs.Prelude.{◌++◌, codes}
use Rattle.flt_tree.specs.Names.{Text}

-- what the writer's header is, up to the filter's name
unfoldable pub user_title : Text
user_title =
    codes "_user.h - the writer's own part of the minifilter `"

-- what stands at the head of the writer's header, behind the filter's name
unfoldable pub user_written : Text
user_written =
    codes " *\n"
    ++ codes " *  Written once by fltstack; it is yours from then on. Your code here must not hand over, complete or keep Data or a\n"
    ++ codes " *  context, take a lock of the text, or raise the IRQL: the proofs about the text hold for the driver only then. A hook\n"
    ++ codes " *  is at the beginning of its callback, which runs at most at APC_LEVEL where it is named PRE or CANCELED, at\n"
    ++ codes " *  DISPATCH_LEVEL where it is named POST, and else at PASSIVE_LEVEL. The Context that it is given may be NULL.\n */\n"
    ++ codes "\n#pragma once\n\n//  Which volume the filter attaches to: the first one offered for which this is TRUE.\n\n"
    ++ codes "#define USER_WANTS_VOLUME( FltObjects, VolumeDeviceType, VolumeFilesystemType ) \\\n"
    ++ codes "    ((VOID) (FltObjects), (VOID) (VolumeDeviceType), (VOID) (VolumeFilesystemType), TRUE)\n\n"
    ++ codes "//  Fields of a context beside the text's value. They are zero at first, and nothing of the text guards them.\n\n"
    ++ codes "#define USER_CONTEXT_FIELDS\n\n//  The pool tag of contexts.\n\n"
    ++ codes "#define USER_CONTEXT_TAG 0x73746c66    // 'flts', as the debugger shows it\n\n"
    ++ codes
    "//  The text's `file`: a number that says which file this is. The analysis takes any number as possible, so any function of the\n"
    ++ codes "//  file object will do. In a pre callback of create FsContext isn't set yet.\n\n"
    ++ codes "#define USER_FILE_NUMBER( FileObject ) ((ULONG64) (ULONG_PTR) (FileObject)->FsContext)\n\n"
    ++ codes "//  Hooks, one for each callback.\n\n"

-- the head of the file for the installation, up to the catalog's name
unfoldable pub inf_head : Text
inf_head =
    codes "[Version]\nSignature   = \"$WINDOWS NT$\"\n"
    ++ codes "Class       = \"ActivityMonitor\"                          ; choose the class that fits the altitude\n"
    ++ codes "ClassGuid   = {b86dff51-a31e-4bac-b3cf-e8cfe75c9fc2}\nProvider    = %Provider%\nDriverVer   = 01/01/2026,1.0.0.0\n"
    ++ codes "CatalogFile = "

-- up to the name of the file that is copied from the disk
unfoldable pub inf_files : Text
inf_files =
    codes ".cat\nPnpLockdown = 1\n\n[DestinationDirs]\nDefaultDestDir = 13\n\n[SourceDisksNames]\n1 = %Disk%\n\n"
    ++ codes "[SourceDisksFiles]\n"

-- up to its name among those of the driver
unfoldable pub inf_copied : Text
inf_copied =
    codes ".sys = 1\n\n[DefaultInstall.NTamd64]\nCopyFiles = DriverFiles\n\n[DriverFiles]\n"

-- up to the service's name
unfoldable pub inf_service : Text
inf_service =
    codes ".sys\n\n[DefaultInstall.NTamd64.Services]\nAddService = "

-- up to the name by which it is shown
unfoldable pub inf_shown : Text
inf_shown =
    codes ",,Service\n\n[Service]\nDisplayName   = "

-- up to the name of its binary
unfoldable pub inf_binary : Text
inf_binary =
    codes "\nServiceBinary = %13%\\"

-- up to the name of the instance that attaches by itself
unfoldable pub inf_registered : Text
inf_registered =
    codes ".sys\nDependencies  = FltMgr\nServiceType   = 2                                        ; SERVICE_FILE_SYSTEM_DRIVER\n"
    ++ codes "StartType     = 3                                        ; SERVICE_DEMAND_START\nErrorControl  = 1\n"
    ++ codes "AddReg        = Registration\n\n[Registration]\nHKR,Parameters,SupportedFeatures,0x00010001,0x3\n"
    ++ codes "HKR,Parameters\\Instances,DefaultInstance,0x00000000,\""

-- up to the name of the instance among the instances
unfoldable pub inf_instance : Text
inf_instance =
    codes "\"\nHKR,Parameters\\Instances\\"

-- up to the altitude, behind that name
unfoldable pub inf_altitude : Text
inf_altitude =
    codes ",Altitude,0x00000000,\""

-- up to the name of the instance again
unfoldable pub inf_flags : Text
inf_flags =
    codes "\"\nHKR,Parameters\\Instances\\"

-- up to the name of the disk, behind that name
unfoldable pub inf_strings : Text
inf_strings =
    codes ",Flags,0x00010001,0x0\n\n[Strings]\nProvider = \"your name\"\nDisk     = \""

-- the end of the file
unfoldable pub inf_end : Text
inf_end =
    codes "\"\n"
